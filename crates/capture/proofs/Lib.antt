pub mod Forms
pub mod Bytes
pub mod Positions
pub mod Merging
pub mod Answers
pub mod Meaning
