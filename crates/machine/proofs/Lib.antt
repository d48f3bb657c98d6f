mod Masks
mod Powers
pub mod laws
