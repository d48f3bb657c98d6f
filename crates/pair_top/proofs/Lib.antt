pub mod Apart
pub mod PlayedRuns
pub mod Promises
pub mod Refused
