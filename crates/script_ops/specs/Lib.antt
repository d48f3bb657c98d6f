pub mod Canonical
pub mod Fits
pub mod FoundOps
pub mod Slots
pub mod Values
pub mod Weights
