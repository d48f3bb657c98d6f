pub mod Space
pub mod laws
