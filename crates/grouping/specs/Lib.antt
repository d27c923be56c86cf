pub mod Visit
pub mod Grouping
pub mod Marks
pub mod Listed
pub mod Bytes
pub mod Searches
pub mod Answer
