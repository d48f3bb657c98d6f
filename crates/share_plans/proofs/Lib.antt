mod BestChoices
pub mod BestRows
pub mod Fractions
mod FewUses
pub mod FilteredSteps
mod LeftUses
mod LongLines
pub mod NearLines
pub mod Plays
pub mod Reported
pub mod Steps
pub mod UsesFrom
