pub mod Entries
pub mod Items
pub mod Lawful
pub mod Room
