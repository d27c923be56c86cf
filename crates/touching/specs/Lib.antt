pub mod Touching
pub mod Values
