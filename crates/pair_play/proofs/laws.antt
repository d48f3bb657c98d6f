-- Lemmas that players cite.
pub mod CommandsSoFar
pub mod LevelsSoFar
pub mod NextOps
pub mod OpKinds
pub mod Runs
pub mod SideTags
pub mod Users
