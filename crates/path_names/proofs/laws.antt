-- Lemmas that crates above cite.
pub mod KnownIds
pub mod NamedDomains
pub mod ShortNames
