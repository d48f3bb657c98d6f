pub mod ShortOps
pub mod Weights
