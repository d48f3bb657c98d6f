mod Alive
pub mod Appends
pub mod Counts
pub mod CurveLines
pub mod CurveSteps
pub mod FewUses
pub mod FilterSteps
pub mod FilteredSteps
pub mod FirstCounts
mod Fronts
mod ItemLists
pub mod JoinSteps
pub mod LevelSteps
mod KeptLines
mod ModifiedLines
mod MoreWays
mod NotedSlots
mod Powers
mod RepeatedRuns
mod Repeats
mod RunCounts
mod RunTotals
pub mod SampleLists
mod SetHits
mod Serving
mod Shifted
mod SlotLists
mod SlotMoves
mod SlotWords
pub mod Steps
mod Totals
pub mod TraceUses
pub mod UseLists
pub mod UseRanges
pub mod UseTexts
pub mod UsesFrom
mod WholeLines
pub mod laws
