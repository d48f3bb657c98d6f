mod Added
mod Flushes
mod Opened
pub mod laws
