-- Lemmas that crates above cite.
pub mod Entries
pub mod Passes
pub mod Prefixes
