pub mod Merged
pub mod Turns
