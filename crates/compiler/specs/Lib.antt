pub mod Answers
pub mod Untouched
