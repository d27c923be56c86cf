pub mod Capture
pub mod Meaning
pub mod Steps
