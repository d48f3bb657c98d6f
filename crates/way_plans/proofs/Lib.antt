mod AcceptedWrites
mod AnsweredPlans
pub mod BestChoices
pub mod BestOrders
pub mod BestRows
pub mod BestSpans
mod ClosedGroups
mod CommandLines
mod CommandSteps
mod Emptied
mod FewGroups
mod FewMisses
pub mod Fewer
mod GivenMasks
mod GivenWays
pub mod Homes
pub mod InOrder
pub mod Lefts
mod Lines
mod Lists
mod NoWays
mod OtherMasks
mod OwnDirectories
pub mod Packed
pub mod PartLists
pub mod Places
mod PlanMasks
mod PlannedEntries
mod PlannedMasks
pub mod Powers
pub mod RowBounds
pub mod RunLists
mod SharedGroups
mod Stages
pub mod StateRows
pub mod Takings
mod Uses
