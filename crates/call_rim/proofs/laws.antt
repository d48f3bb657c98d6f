-- Lemmas that crates above cite.
pub mod Ends
pub mod InputBytes
