pub mod Split
pub mod Cursors
pub mod Lines
pub mod Numbers
pub mod Written
