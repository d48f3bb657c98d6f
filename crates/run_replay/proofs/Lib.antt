mod Entries
mod GroupHistories
mod Replays
mod Serials
pub mod laws
