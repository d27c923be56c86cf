pub mod Layout
pub mod Graph
pub mod Table
pub mod Run
pub mod Fits
pub mod Steps
pub mod Admission
