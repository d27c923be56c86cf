pub mod Paths
pub mod Containment
pub mod Divisions
pub mod Readings
pub mod LeastStarters
pub mod FewestStates
pub mod Examples
