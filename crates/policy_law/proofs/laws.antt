-- Lemmas that crates above cite.
pub mod LinesOnce
pub mod Masks
pub mod Places
pub mod Stamped
pub mod Victims
