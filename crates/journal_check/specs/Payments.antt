-- What a command owes to a slice, one thing after the other, and how far its entries there have paid it.
-- (For functions and proofs: no promise of the program stands on it.)
use Rattle.std.specs.List.{flat_map}
use Rattle.std.specs.Prelude.{◌≡◌, ℕ, ◌+◌, ◌<◌, ◌++◌, List, [], ◌∷◌, drop, filter, length, map, slice_index, slice_index_or, slice_set}
use Rattle.cache_core.specs.declared.entry.SliceEntry.{SliceEntry}
use Rattle.journal_check.specs.Traces.{owed_by_step}
use Rattle.journal_check.specs.declared.trace.Step.{Step}
use Rattle.machine.specs.declared.parameters.Parameters.{Parameters}
use Rattle.run_law.specs.Journals.{At, JournalsValue, slice_at}
use Rattle.run_law.specs.Owed.{Owed, follow_in, look_in, paid_by}
use Rattle.run_law.specs.TreeHistory.{TreeEntryValue}
use Rattle.run_law.specs.Truth.{is_made_by}

-- what a command at position k owes to slice i for each need, and then for each follow-up: one entry or none
abbrev pub dues : Parameters → ℕ → ℕ → Step → List (List Owed)
dues m i k step = map (look_in m i k) step.needs ++ map (follow_in m i (k + 1)) step.follows.items

-- what it owes for one of these
abbrev pub due : Parameters → ℕ → ℕ → Step → ℕ → List Owed
due m i k step c = slice_index_or (dues m i k step) c []

-- what it owes from one of these on
abbrev pub rest : Parameters → ℕ → ℕ → Step → ℕ → List Owed
rest m i k step c = flat_map (λ (owed : List Owed). owed) (drop c (dues m i k step))

-- an entry is the next that a command owes, and its cursor is moved behind that
pub record PaysNext (m : Parameters) (i k : ℕ) (step : Step) (e : SliceEntry) (old new : List ℕ) : Type 0 where
  pub next : ℕ
  pub moved : new ≡ slice_set old k next
  pub paid : rest m i k step (slice_index old k) ≡ paid_by e ∷ rest m i k step next

-- these entries of slice i are what each command owes up to its cursor
abbrev pub ArePaid : Parameters → ℕ → List TreeEntryValue → List Step → List SliceEntry → List ℕ → Type 0
ArePaid m i tree steps entries cursors =
    (k c : ℕ) (h : TreeEntryValue) (step : Step) → At tree k h → At steps k step → At cursors k c
    → owed_by_step m i k step ≡ map paid_by (filter (is_made_by h.thread h.op) entries) ++ rest m i k step c

-- these entries of slice i are what each command owes
abbrev pub AreAllPaid : Parameters → ℕ → List TreeEntryValue → List Step → List SliceEntry → Type 0
AreAllPaid m i tree steps entries =
    (k : ℕ) (h : TreeEntryValue) (step : Step) → At tree k h → At steps k step → map paid_by (filter (is_made_by h.thread h.op) entries) ≡ owed_by_step m i k step

-- nothing is left of what each command owes after its cursor
abbrev pub AreEnded : Parameters → ℕ → List Step → List ℕ → Type 0
AreEnded m i steps cursors = (k c : ℕ) (step : Step) → At steps k step → At cursors k c → rest m i k step c ≡ []

-- in each slice the entries are what each command owes
abbrev pub AreSlicesPaid : Parameters → JournalsValue → List Step → Type 0
AreSlicesPaid m j steps = (i : ℕ) → i < length j.slices → AreAllPaid m i j.tree steps (slice_at j i)
