-- Lemmas that crates above cite.
pub mod Histories
pub mod Lines
pub mod OwnSets
pub mod Places
pub mod Suffixes
pub mod Touches
pub mod WaysBelow
