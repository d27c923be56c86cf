pub mod Range
pub mod Bounds
pub mod Operation
pub mod Cycle
pub mod Sound
pub mod Values
