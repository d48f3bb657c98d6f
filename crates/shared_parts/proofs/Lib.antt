pub mod Happenings
pub mod laws
pub mod Openings
pub mod Pairs
pub mod Shown
pub mod Splits
pub mod Views
