pub mod Counts
pub mod Faults
pub mod Gaps
pub mod laws
