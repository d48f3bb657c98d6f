mod Arguments
pub mod BadInputs
mod BeginningDivisions
mod BeginningLines
mod Commands
pub mod Divisions
mod Entries
mod Follows
mod Growth
mod Histories
mod JudgedSlices
mod JudgedVerdicts
mod KeptParts
mod LeftParts
mod MatchedLooks
mod NotedLooks
mod Numbers
mod Runs
mod SchemataArguments
mod ScriptBeginnings
mod SliceParts
mod SliceRooms
mod SmallReasons
mod Tags
mod TextArguments
mod Waiting
pub mod WholeLines
