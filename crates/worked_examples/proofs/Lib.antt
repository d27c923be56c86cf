pub mod ByWord
pub mod Endless
pub mod WorkedExamples
pub mod RunsAhead
