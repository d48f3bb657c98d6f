pub mod Law
pub mod LiveParts
pub mod LivePhases
pub mod LiveSteps
pub mod Parts
pub mod Schedules
