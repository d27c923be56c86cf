pub mod Searches
pub mod Answers
pub mod Values
pub mod PastTable
