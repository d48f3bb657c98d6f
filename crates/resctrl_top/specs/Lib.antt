pub mod Codes
pub mod Endings
pub mod Halves
pub mod Outputs
pub mod Performances
