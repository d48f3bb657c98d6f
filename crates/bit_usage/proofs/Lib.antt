pub mod Domains
pub mod Lengths
pub mod laws
