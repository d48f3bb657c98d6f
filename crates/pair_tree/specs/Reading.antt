-- What the readers of a schemata text keep and answer.
-- (For functions and proofs: no promise of the program stands on it.)
use Rattle.std.specs.Prelude.{◌≡◌, List, ◌++◌, Result, Ok, Err}
use Rattle.pair_law.specs.Reading.{SideMask, on_side, reading_from}
use Rattle.pair_text.specs.Values.{Machines, side_machine}
use Rattle.pair_text.specs.declared.side.Side.{Side}
use Rattle.schemata_text.specs.Items.{Item}
use Rattle.schemata_text.specs.Reading.{AreLawful}
use Rattle.schemata_text.specs.declared.fault.TextFault.{TextFault}
use Rattle.tree_law.specs.Space.{geometry_of}

-- on each side, valid masks of distinct domains that exist
abbrev pub AreRead : Machines → List SideMask → Type 0
AreRead m all = (side : Side) → AreLawful (geometry_of (side_machine m side)) (side_machine m side).domains (on_side side all)

-- whatever follows these items in a line of this side: they say what is there now, or the fault is theirs
abbrev pub Continues : Machines → Side → List SideMask → List Item → Result (Unit {0}) TextFault → List SideMask → Type 0
Continues m side before items (Ok u) after = (more : List Item) → reading_from m side before (items ++ more) ≡ reading_from m side after more
Continues m side before items (Err fault) after = (more : List Item) → reading_from m side before (items ++ more) ≡ Err fault
