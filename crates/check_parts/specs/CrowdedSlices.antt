-- Slices that have together more entries than a script weighs: the entries of some op do not stand in them just once, so nothing has
-- to be kept of them but whether the clauses before that one hold.
-- (For functions and proofs: no promise of the program stands on it.)
use Rattle.std.specs.Prelude.{◌≡◌, ℕ, ◌<◌, List, [], length, slice_index_or}
use Rattle.cache_core.specs.declared.entry.SliceEntry.{SliceEntry}
use Rattle.lists.specs.Sums.{sum_below}
use Rattle.machine.specs.Slices.{slice_count}
use Rattle.run_law.specs.Clauses.{CommandsStandOnce, EntriesStandOnce, TreeIsLegal}
use Rattle.run_law.specs.Journals.{JournalsValue}
use Rattle.script_ops.specs.Values.{IsLawful, ScriptValue, total_weight}

-- how many entries these slices have together
abbrev pub entries_in : List (List SliceEntry) → ℕ
entries_in slices = sum_below (length slices) (λ i. length (slice_index_or slices i []))

-- they have more than the script weighs
abbrev pub HasMoreEntries : ScriptValue → List (List SliceEntry) → Type 0
HasMoreEntries script slices = total_weight script < entries_in slices

-- then the entries of some op do not stand in them just once
abbrev pub MoreEntriesFail : Type 0
MoreEntriesFail =
    (script : ScriptValue) (j : JournalsValue) → IsLawful script → length j.slices ≡ slice_count script.machine → HasMoreEntries script j.slices
    → CommandsStandOnce script j → TreeIsLegal script j → EntriesStandOnce script j → ⊥
