-- Lemmas that crates above cite.
pub mod Halves
pub mod Objects
pub mod Pieces
