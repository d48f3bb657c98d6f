pub mod Draws
pub mod Making
pub mod Scripts
pub mod Trace
pub mod TraceLaws
