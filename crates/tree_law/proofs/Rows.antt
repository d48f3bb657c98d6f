-- The worked rows, by computing.
use Rattle.std.proofs.Common.{refl}
use Rattle.cbm.specs.Masks.{overlaps, ways_of}
use Rattle.cbm.specs.Validity.{checked}
use Rattle.mode_rules.specs.Overlaps.{is_apart, leaving_overlap, write_overlap}
use Rattle.mode_rules.specs.Setup.{entry_refusal}
use Rattle.mode_rules.specs.StartingWays.{initial_ways, starting_ways}
use Rattle.rc_base.specs.Texts.{is_text}
use Rattle.schemata_text.specs.Reading.{entry_of, line_of, reading_from}
use Rattle.tree_law.specs.Rows.{LimboRow, LockRow, LockState, RegionRow, SetupRow, SpaceRow, TasksRow}
use Rattle.tree_law.specs.Steps as steps
use Rattle.tree_law.specs.commands.Mkdir as mkdir
use Rattle.tree_law.specs.commands.Rmdir as rmdir
use Rattle.tree_law.specs.commands.Tick as tick
use Rattle.tree_law.specs.commands.Write as write
use Rattle.tree_law.specs.commands.Mode as mode
use Rattle.tree_law.specs.commands.Schemata as schemata
use Rattle.tree_law.specs.commands.Tasks as tasks

-- the row of RMIDs in limbo
pub LimboRow-holds : LimboRow
unfolding steps.next steps.refusal mkdir.refusal mkdir.accepted rmdir.refusal rmdir.accepted rmdir.freed tick.accepted write.refusal write.accepted tasks.refusal tasks.kept tasks.elements tasks.task_in initial_ways starting_ways
LimboRow-holds = refl

-- the row of a write of tasks
pub TasksRow-holds : TasksRow
unfolding steps.next steps.refusal mkdir.refusal mkdir.accepted write.refusal write.accepted write.refused tasks.refusal tasks.kept tasks.elements tasks.task_in initial_ways starting_ways
TasksRow-holds = refl

-- the row of pseudo-locksetup
pub SetupRow-holds : SetupRow
unfolding steps.next steps.refusal mkdir.refusal mkdir.accepted rmdir.refusal rmdir.accepted rmdir.freed write.refusal write.accepted write.refused mode.refusal mode.accepted mode.freed mode.mode_in mode.is_present schemata.refusal schemata.accepted schemata.schemata_read initial_ways starting_ways is_text overlaps ways_of checked write_overlap leaving_overlap is_apart entry_refusal reading_from line_of entry_of
SetupRow-holds = refl

-- the row of a lock
pub LockRow-holds : LockRow
unfolding steps.next steps.refusal mkdir.refusal mkdir.accepted write.refusal write.accepted write.refused tasks.refusal tasks.kept tasks.elements tasks.task_in mode.refusal mode.accepted mode.freed mode.mode_in mode.is_present schemata.refusal schemata.accepted schemata.schemata_read initial_ways starting_ways is_text overlaps ways_of checked write_overlap leaving_overlap is_apart entry_refusal reading_from line_of entry_of
LockRow-holds = refl

-- the state that the row of a lock leaves
pub LockState-holds : LockState
unfolding steps.next steps.refusal mkdir.refusal mkdir.accepted write.refusal write.accepted write.refused tasks.refusal tasks.kept tasks.elements tasks.task_in mode.refusal mode.accepted mode.freed mode.mode_in mode.is_present schemata.refusal schemata.accepted schemata.schemata_read initial_ways starting_ways is_text overlaps ways_of checked write_overlap leaving_overlap is_apart entry_refusal reading_from line_of entry_of
LockState-holds = refl

-- the row of space for a new group
pub SpaceRow-holds : SpaceRow
unfolding steps.next steps.refusal mkdir.refusal mkdir.accepted write.refusal write.accepted write.refused tasks.refusal tasks.kept tasks.elements tasks.task_in mode.refusal mode.accepted mode.freed mode.mode_in mode.is_present schemata.refusal schemata.accepted schemata.schemata_read initial_ways starting_ways is_text overlaps ways_of checked write_overlap leaving_overlap is_apart entry_refusal reading_from line_of entry_of
SpaceRow-holds = refl

-- the row of a region
pub RegionRow-holds : RegionRow
unfolding steps.next steps.refusal mkdir.refusal mkdir.accepted write.refusal write.accepted write.refused tasks.refusal tasks.kept tasks.elements tasks.task_in mode.refusal mode.accepted mode.freed mode.mode_in mode.is_present schemata.refusal schemata.accepted schemata.schemata_read initial_ways starting_ways is_text overlaps ways_of checked write_overlap leaving_overlap is_apart entry_refusal reading_from line_of entry_of
RegionRow-holds = refl
