pub mod StartingMasks
pub mod StartingWays
