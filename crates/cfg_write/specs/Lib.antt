pub mod Write
pub mod RoundTrip
pub mod Put
