mod AppliedLines
pub mod Guards
mod MadeByCommands
mod MadeGroups
pub mod Meanings
pub mod Phases
pub mod Places
mod PlanWrites
mod PrintedMasks
mod ReadPlans
pub mod ReadScripts
pub mod Tallies
pub mod Told
pub mod ToldOps
pub mod laws
