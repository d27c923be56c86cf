pub mod Number
pub mod Name
pub mod Form
pub mod Cursor
