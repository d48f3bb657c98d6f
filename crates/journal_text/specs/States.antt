-- What a reader of a text of journals knows after some of its lines, and what was given to its keeper.
-- (For functions and proofs: no promise of the program stands on it.)
use Rattle.std.specs.Prelude.{◌≡◌, ℕ, ◌+◌, ◌<◌, ◌≤◌, Bool, true, false, List, [], ◌∷◌, ◌++◌, length, map, All}
use Rattle.cache_core.specs.declared.entry.SliceEntry.{SliceEntry}
use Rattle.journal_text.specs.Lines.{command_line, entry_line, first_line, journal_lines, lines_from, slice_line}
use Rattle.journal_text.specs.Writable.{IsWritable, IsWritableCommand, IsWritableEntry, IsWritableSlice}
use Rattle.journal_text.specs.LinePositions.{LeadOn, Leads, LeadsFromSlices}
use Rattle.journal_text.specs.declared.line_position.LinePosition.{LinePosition}
use Rattle.journal_text.specs.declared.line_position.LinePosition.TheVariants.{Start, InTree, InSlice, Over}
use Rattle.machine.specs.Slices.{slice_count}
use Rattle.run_law.specs.Journals.{At, JournalsValue}
use Rattle.run_law.specs.TreeHistory.{TreeEntryValue}
use Rattle.script_ops.specs.Values.{ScriptValue, total_weight}

-- the commands, the whole slices, and the entries of the slice that is being read
pub record PartsRead : Type 0 where
  pub tree : List TreeEntryValue
  pub slices : List (List SliceEntry)
  pub entries : List SliceEntry

-- the position, and what was read before it
pub record ReaderState : Type 0 where
  pub position : LinePosition
  pub parts : PartsRead

-- the state at a position, after these parts
abbrev pub state_at : LinePosition → PartsRead → ReaderState
state_at position parts = record { position = position; parts = parts }

-- nothing
abbrev pub nothing_read : PartsRead
nothing_read = record { tree = []; slices = []; entries = [] }

-- one command more
abbrev pub with_command : PartsRead → TreeEntryValue → PartsRead
with_command parts e = record parts { tree = parts.tree ++ e ∷ [] }

-- one entry more of the slice that is being read
abbrev pub with_entry : PartsRead → SliceEntry → PartsRead
with_entry parts e = record parts { entries = parts.entries ++ e ∷ [] }

-- the slice that was being read is whole
abbrev pub with_slice : PartsRead → PartsRead
with_slice parts = record parts { slices = parts.slices ++ parts.entries ∷ []; entries = [] }

-- the journals that were read, where the text is over
abbrev pub journals_in : PartsRead → JournalsValue
journals_in s = record { tree = s.tree; slices = s.slices }

-- the lines of the commands, with the first line before them
abbrev pub tree_lines : List TreeEntryValue → List (List ℕ)
tree_lines tree = first_line ∷ map command_line tree

-- the lines of commands and of whole slices
abbrev pub whole_slices : ScriptValue → PartsRead → List (List ℕ)
whole_slices script s = tree_lines s.tree ++ lines_from script.machine 0 s.slices

-- nothing was read
pub record IsBefore (lines : List (List ℕ)) (s : PartsRead) : Type 0 where
  pub same : lines ≡ []
  pub tree : s.tree ≡ []
  pub slices : s.slices ≡ []
  pub entries : s.entries ≡ []

-- these are the lines of the commands so far
pub record HoldsTree (script : ScriptValue) (lines : List (List ℕ)) (s : PartsRead) : Type 0 where
  pub same : lines ≡ tree_lines s.tree
  pub tree : All (IsWritableCommand (total_weight script)) s.tree
  pub slices : s.slices ≡ []
  pub entries : s.entries ≡ []

-- these are the lines of the commands, of the slices before this one, and of its entries so far, with so many still to come
pub record HoldsSlices (script : ScriptValue) (slice left : ℕ) (lines : List (List ℕ)) (s : PartsRead) : Type 0 where
  pub same : lines ≡ whole_slices script s ++ slice_line script.machine slice (length s.entries + left) ∷ map entry_line s.entries
  pub tree : All (IsWritableCommand (total_weight script)) s.tree
  pub count : length s.slices ≡ slice
  pub there : slice < slice_count script.machine
  pub slices : (i : ℕ) (entries : List SliceEntry) → At s.slices i entries → IsWritableSlice script.machine (total_weight script) i entries
  pub few : length s.entries + left ≤ total_weight script
  pub entries : All (IsWritableEntry script.machine slice) s.entries

-- these are the lines of the journals
pub record HoldsJournals (script : ScriptValue) (lines : List (List ℕ)) (s : PartsRead) : Type 0 where
  pub same : lines ≡ journal_lines script.machine (journals_in s)
  pub writable : IsWritable script (journals_in s)

-- at this position, these are the lines of what was read
abbrev pub Holds : ScriptValue → LinePosition → List (List ℕ) → PartsRead → Type 0
Holds script Start lines s = IsBefore lines s
Holds script InTree lines s = HoldsTree script lines s
Holds script (InSlice slice left) lines s = HoldsSlices script slice left lines s
Holds script Over lines s = HoldsJournals script lines s

-- these lines lead to the position of the reader, and it holds what they say
pub record HasRead (script : ScriptValue) (lines : List (List ℕ)) (s : ReaderState) : Type 0 where
  pub led : LeadOn script Start lines s.position
  pub held : Holds script s.position lines s.parts

-- the slice that is being read is one of the machine
abbrev pub IsThere : ScriptValue → LinePosition → Type 0
IsThere script (InSlice slice left) = slice < slice_count script.machine
IsThere script position = Unit {0}

-- after a line that may stand, the reader has read it too; another leads nowhere
abbrev pub HasTaken : ScriptValue → List ℕ → ReaderState → ReaderState → Bool → Type 0
HasTaken script line old new true = (lines : List (List ℕ)) → HasRead script lines old → HasRead script (lines ++ line ∷ []) new
HasTaken script line old new false = (next : LinePosition) → Leads script old.position line next → ⊥

-- What is kept is of parts that were read. After a line that may stand it is of one line more; another leads nowhere.
abbrev pub TakesLine : ScriptValue → List ℕ → LinePosition → (PartsRead → Type 0) → LinePosition → (PartsRead → Type 0) → Bool → Type 0
TakesLine script line from Old to New true =
    (lines : List (List ℕ)) (parts : PartsRead) → Old parts → HasRead script lines (state_at from parts)
    → (more : PartsRead) × New more × HasRead script (lines ++ line ∷ []) (state_at to more)
TakesLine script line from Old to New false = (next : LinePosition) → Leads script from line next → ⊥

-- the same of a line that may stand after the commands; or there is none such
abbrev pub LeavesTree : ScriptValue → List ℕ → LinePosition → (PartsRead → Type 0) → LinePosition → (PartsRead → Type 0) → Bool → Type 0
LeavesTree script line from Old to New true = TakesLine script line from Old to New true
LeavesTree script line from Old to New false = (next : LinePosition) → LeadsFromSlices script 0 line next → ⊥
