mod Puts
mod Counts
mod TableListings
mod TextListings
mod GraphListings
pub mod Answers
mod Examples
