mod Fed
mod Passed
mod PassedOn
mod PassedRests
mod WrittenBytes
pub mod laws
