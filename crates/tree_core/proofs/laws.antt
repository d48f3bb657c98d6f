-- Lemmas that the crates above cite.
pub mod KnownNames
pub mod NamedCommands
pub mod Unions
