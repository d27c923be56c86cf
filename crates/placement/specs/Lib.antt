pub mod Placement
pub mod Counts
pub mod PlacementBytes
