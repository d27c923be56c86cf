pub mod Number
pub mod Parts
pub mod Cursor
