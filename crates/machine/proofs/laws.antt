-- Lemmas that crates above cite.
pub mod Domains
pub mod EveryWay
pub mod Ranges
pub mod Slices
pub mod WholeSets
