-- What a schemata text says of the two sides: the masks of its entries, or the fault of its first bad item.
-- (Kernel documentation, "Schemata files - general concepts", with L3DATA and L3CODE, or L2 and L3.)
use Rattle.std.specs.Prelude.{ℕ, Bool, true, false, not, ◌==◌, List, [], ◌∷◌, ◌++◌, map, filter, length, codes, Option, Some, None, Result, Ok, Err, if◌then◌else◌}
use Rattle.std.specs.List.{list_any, before_first, after_first}
use Rattle.num_text.specs.Blanks.{trim}
use Rattle.machine.specs.declared.parameters.Parameters.{Parameters}
use Rattle.pair_text.specs.Values.{Machines, side_machine}
use Rattle.pair_text.specs.declared.side.Side.{Side}
use Rattle.pair_text.specs.declared.side.Side.TheVariants.{First, Second}
pub use Rattle.pair_text.specs.declared.side_mask.SideMask.{SideMask}
use Rattle.rc_base.specs.Faults.{◌>>=◌, fault_if}
use Rattle.rc_base.specs.Texts.{is_text}
use Rattle.schemata_text.specs.Items.{Item, Line, Entry, colon, items_of}
use Rattle.schemata_text.specs.Reading.{entry_of}
use Rattle.schemata_text.specs.declared.assignment.Assignment.{Assignment}
use Rattle.schemata_text.specs.declared.fault.TextFault.{TextFault}
use Rattle.schemata_text.specs.declared.fault.TextFault.TheVariants.{NoColon, BadResource, NoValue}
use Rattle.tree_law.specs.Space.{geometry_of}

abbrev pub is_same_side : Side → Side → Bool
is_same_side First First = true
is_same_side Second Second = true
is_same_side a b = false

-- the name of a side
abbrev pub side_name : Option Parameters → Side → List ℕ
side_name None First = codes "L3DATA"
side_name None Second = codes "L3CODE"
side_name (Some l2) First = codes "L2"
side_name (Some l2) Second = codes "L3"

-- the side that a name names
abbrev pub side_named : Machines → List ℕ → Result Side TextFault
side_named m name =
    if is_text name (side_name m.l2 First) then Ok First else
    if is_text name (side_name m.l2 Second) then Ok Second else Err BadResource

-- a line has a colon, names a side before it, and has a value after it
unfoldable pub side_of_line : Machines → List ℕ → Result Side TextFault
side_of_line m line = do
  a ← fault_if (not (list_any colon line)) NoColon
  side ← side_named m (trim (before_first colon line))
  b ← fault_if (length (trim (after_first colon line)) == 0) NoValue
  Ok side

-- the masks of one side among these
abbrev pub on_side : Side → List SideMask → List Assignment
on_side side all = map (λ (a : SideMask). record { domain = a.domain; mask = a.mask }) (filter (λ (a : SideMask). is_same_side side a.side) all)

-- an entry of a side's line
abbrev pub side_mask : Side → Assignment → SideMask
side_mask side a = record { side = side; domain = a.domain; mask = a.mask }

-- these masks and those of the items after them, in a line of this side, or the fault of the first bad item; a domain may be named
-- once under each name
unfoldable pub reading_from : Machines → Side → List SideMask → List Item → Result (List SideMask) TextFault
reading_from m side before [] = Ok before
reading_from m side before (Line line ∷ items) = side_of_line m line >>= λ side. reading_from m side before items
reading_from m side before (Entry entry ∷ items) =
    entry_of (geometry_of (side_machine m side)) (side_machine m side).domains (on_side side before) entry >>= λ a. reading_from m side (before ++ side_mask side a ∷ []) items

-- the masks of a text, or the fault of its first bad item from left to right; the first item is a line
abbrev pub reading : Machines → List ℕ → Result (List SideMask) TextFault
reading m text = reading_from m First [] (items_of text)
