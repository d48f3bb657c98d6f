-- Lemmas that crates above cite.
pub mod AccessSteps
pub mod EntryRooms
pub mod FollowNeeds
pub mod LookedCounts
pub mod MachineStates
pub mod Plays
pub mod Schedules
pub mod StepRows
