pub mod Spans
pub mod laws
