pub mod FirstLines
pub mod Lines
pub mod Regions
