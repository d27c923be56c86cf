pub mod Layout
pub mod Machine
pub mod Touch
pub mod Table
pub mod Chains
pub mod Clock
pub mod Run
