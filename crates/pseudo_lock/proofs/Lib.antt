pub mod FirstLines
pub mod Placing
pub mod Ways
