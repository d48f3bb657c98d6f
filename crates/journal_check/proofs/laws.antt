-- Lemmas that crates above cite.
pub mod FewCommands
pub mod OpKinds
pub mod TakenPlaces
pub mod Told
pub mod UnexpectedCommands
