-- Entries of one slice, and what was asked of it.
use Rattle.std.specs.Prelude.{ℕ, List, [], slice_index_or}
use Rattle.cache_core.specs.declared.entry.SliceEntry.{SliceEntry}
use Rattle.cache_core.specs.declared.entry.What.{What}
use Rattle.run_law.specs.Owed.{undecided}

-- what an entry was asked as: all of it but what the slice itself decides
abbrev pub asked_by : SliceEntry → SliceEntry
asked_by e = record e { what = undecided e.what }

-- an entry of the only thread
abbrev pub entry : ℕ → ℕ → What → SliceEntry
entry op epoch what = record { thread = 0; op = op; epoch = epoch; what = what }

-- the history of a slice
abbrev pub slice_in : List (List SliceEntry) → ℕ → List SliceEntry
slice_in slices i = slice_index_or slices i []
