-- Which line may stand at which position of a text of journals, and the position after it.
-- (For functions and proofs: no promise of the program stands on it.)
use Rattle.std.specs.Prelude.{◌≡◌, ℕ, ◌+◌, ◌<◌, ◌≤◌, ◌⊎◌, List, [], ◌∷◌}
use Rattle.cache_core.specs.declared.entry.SliceEntry.{SliceEntry}
use Rattle.journal_text.specs.Lines.{command_line, entry_line, first_line, last_line, slice_line}
use Rattle.journal_text.specs.Writable.{IsWritableCommand, IsWritableEntry}
use Rattle.journal_text.specs.declared.line_position.LinePosition.{LinePosition}
use Rattle.journal_text.specs.declared.line_position.LinePosition.TheVariants.{Start, InTree, InSlice, Over}
use Rattle.machine.specs.Slices.{slice_count}
use Rattle.run_law.specs.TreeHistory.{TreeEntryValue}
use Rattle.script_ops.specs.Values.{ScriptValue, total_weight}

-- a line of a command that the tree took
pub record IsCommandLine (script : ScriptValue) (line : List ℕ) : Type 0 where
  pub entry : TreeEntryValue
  pub writable : IsWritableCommand (total_weight script) entry
  pub same : command_line entry ≡ line

-- a line of an entry of this slice
pub record IsEntryLine (script : ScriptValue) (slice : ℕ) (line : List ℕ) : Type 0 where
  pub entry : SliceEntry
  pub writable : IsWritableEntry script.machine slice entry
  pub same : entry_line entry ≡ line

-- the line before so many entries of a slice
pub record IsSliceLine (script : ScriptValue) (slice entries : ℕ) (line : List ℕ) : Type 0 where
  pub there : slice < slice_count script.machine
  pub few : entries ≤ total_weight script
  pub same : slice_line script.machine slice entries ≡ line

-- the last line, after so many slices
pub record IsLastLine (script : ScriptValue) (slices : ℕ) (line : List ℕ) : Type 0 where
  pub all : slices ≡ slice_count script.machine
  pub same : last_line ≡ line

-- after so many slices this line may stand, and it leads to this position
abbrev pub LeadsFromSlices : ScriptValue → ℕ → List ℕ → LinePosition → Type 0
LeadsFromSlices script slices line (InSlice slice left) = (slices ≡ slice) × IsSliceLine script slice left line
LeadsFromSlices script slices line Over = IsLastLine script slices line
LeadsFromSlices script slices line next = ⊥

-- at a position of a slice this line may stand, and it leads to this position
abbrev pub LeadsFromEntries : ScriptValue → ℕ → ℕ → List ℕ → LinePosition → Type 0
LeadsFromEntries script slice left line next =
    ((left ≡ 0) × LeadsFromSlices script (slice + 1) line next)
    ⊎ ((more : ℕ) × (left ≡ more + 1) × (next ≡ InSlice slice more) × IsEntryLine script slice line)

-- at a position this line may stand, and it leads to this position
abbrev pub Leads : ScriptValue → LinePosition → List ℕ → LinePosition → Type 0
Leads script Start line next = (next ≡ InTree) × (first_line ≡ line)
Leads script InTree line next = ((next ≡ InTree) × IsCommandLine script line) ⊎ LeadsFromSlices script 0 line next
Leads script (InSlice slice left) line next = LeadsFromEntries script slice left line next
Leads script Over line next = ⊥

-- from a position on these lines may stand one after the other, and they lead to this position
abbrev pub LeadOn : ScriptValue → LinePosition → List (List ℕ) → LinePosition → Type 0
LeadOn script position [] last = position ≡ last
LeadOn script position (line ∷ lines) last = (next : LinePosition) × Leads script position line next × LeadOn script next lines last
