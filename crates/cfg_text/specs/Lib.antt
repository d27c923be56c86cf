pub mod Walk
pub mod Read
pub mod ReadSteps
