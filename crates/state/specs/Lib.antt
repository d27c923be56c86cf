pub mod Wires
pub mod Making
pub mod EdgeList
pub mod Steps
pub mod BlocksMaking
