pub mod Synthesis
pub mod StateWords
pub mod Plans
