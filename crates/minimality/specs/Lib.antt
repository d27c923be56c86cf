pub mod Fit
pub mod Division
