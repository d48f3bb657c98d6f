pub mod LowestRuns
pub mod Overlaps
pub mod Validity
pub mod Ways
