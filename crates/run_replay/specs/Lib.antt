pub mod CommandsOfRuns
pub mod GroupHistories
pub mod Made
pub mod Playbacks
pub mod Replayed
