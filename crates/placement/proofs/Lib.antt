pub mod PlacementLaws
pub mod CountLaws
pub mod StateCounts
pub mod PlacedOrder
pub mod CountSteps
pub mod FreeBlocks
pub mod PlacementSteps
pub mod StateOrder
