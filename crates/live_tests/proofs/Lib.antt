pub mod Merges
mod Outcomes
mod Phases
mod Threads
