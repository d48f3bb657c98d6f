pub mod Entries
pub mod Exchanged
pub mod Journals
pub mod Kinds
pub mod Passes
pub mod Prefixes
pub mod Views
