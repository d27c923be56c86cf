pub mod Forms
pub mod Lines
pub mod Literals
pub mod Packing
pub mod Names
pub mod Otherwise
