pub mod Overlaps
pub mod Refusals
pub mod Setup
pub mod StartingWays
