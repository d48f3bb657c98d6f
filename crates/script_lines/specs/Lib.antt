pub mod Arguments
pub mod Escapes
pub mod Keys
pub mod Paths
pub mod Tasks
