pub mod Runs
pub mod Values
pub mod Unchanged
pub mod UntouchedKept
