pub mod FreeClasses
pub mod FreeRmids
pub mod Places
pub mod Releases
pub mod laws
