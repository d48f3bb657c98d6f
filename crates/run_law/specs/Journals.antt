-- The journals of a run: the tree's history, and the history of each slice.
use Rattle.std.specs.Prelude.{◌≡◌, ℕ, List, [], Some, slice_get, slice_index_or}
use Rattle.cache_core.specs.declared.entry.SliceEntry.{SliceEntry}
use Rattle.run_law.specs.TreeHistory.{TreeEntryValue}

-- the tree's history, and the history of each slice by its number over all domains
pub record JournalsValue : Type 0 where
  pub tree : List TreeEntryValue
  pub slices : List (List SliceEntry)

-- the history of a slice
abbrev pub slice_at : JournalsValue → ℕ → List SliceEntry
slice_at j i = slice_index_or j.slices i []

-- this stands at this position
abbrev pub At : {A : Type 0} → List A → ℕ → A → Type 0
At xs k x = slice_get xs k ≡ Some x
