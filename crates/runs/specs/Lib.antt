pub mod Lists
pub mod Runs
pub mod Operations
