pub mod CommandLines
pub mod MadeLists
pub mod PlayedRuns
