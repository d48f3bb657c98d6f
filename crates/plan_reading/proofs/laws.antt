-- Lemmas that crates above cite.
pub mod ComponentBytes
pub mod Escapes
pub mod GroupNames
pub mod GroupPaths
pub mod InternedNames
pub mod TextLines
pub mod WriteLines
