-- Lemmas that crates above cite.
pub mod Digits
pub mod Limits
pub mod Pieces
pub mod Prints
