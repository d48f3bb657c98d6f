-- What somebody has seen of the journals, and how that grows.
-- (For functions and proofs: no promise of the program stands on it.)
use Rattle.std.specs.Prelude.{◌≡◌, ◌≢◌, ℕ, ◌<◌, ◌==◌, Bool, false, List, [], ◌∷◌, ◌++◌, filter, length}
use Rattle.cache_core.specs.declared.entry.SliceEntry.{SliceEntry}
use Rattle.run_law.specs.Journals.{At, JournalsValue, slice_at}
use Rattle.run_law.specs.TreeHistory.{TreeEntryValue}
use Rattle.run_law.specs.Truth.{is_made_by, is_taken_from}
use Rattle.seen_journal.specs.Prefixes.{IsPrefix}

-- ---- by thread and op

-- whether an entry of a slice is of thread t
abbrev pub is_by : ℕ → SliceEntry → Bool
is_by t e = e.thread == t

-- whether a command in the tree's history is of thread t
abbrev pub is_from : ℕ → TreeEntryValue → Bool
is_from t h = h.thread == t

-- the entries that an op of thread t has made in slice i
abbrev pub made_in : JournalsValue → ℕ → ℕ → ℕ → List SliceEntry
made_in v i t op = filter (is_made_by t op) (slice_at v i)

-- where an op of thread t stands in the tree's history
abbrev pub taken_in : JournalsValue → ℕ → ℕ → List TreeEntryValue
taken_in v t op = filter (is_taken_from t op) v.tree

-- ---- more of the journals

-- the first list begins the second, and what comes after it is not of this kind
pub record NoMore {A : Type 0} (own : A → Bool) (xs ys : List A) : Type 0 where
  pub rest : List A
  pub is : xs ++ rest ≡ ys
  pub others : (k : ℕ) (x : A) → At rest k x → own x ≡ false

-- what was seen has grown: the second has all that the first has, and maybe more
pub record HasGrown (v w : JournalsValue) : Type 0 where
  pub tree : IsPrefix v.tree w.tree
  pub slices : (i : ℕ) → IsPrefix (slice_at v i) (slice_at w i)

-- it has grown by nothing of this thread
pub record SeesMore (t : ℕ) (v w : JournalsValue) : Type 0 where
  pub tree : NoMore (is_from t) v.tree w.tree
  pub slices : (i : ℕ) → NoMore (is_by t) (slice_at v i) (slice_at w i)

-- The thread has added this entry to slice i, after all that stood there. Of that list it had seen a beginning, and nothing after
-- the beginning is its own. Of the other lists it may have seen more, and nothing more of its own.
pub record AddsEntry (t i : ℕ) (e : SliceEntry) (v w : JournalsValue) : Type 0 where
  pub tree : NoMore (is_from t) v.tree w.tree
  pub list : List SliceEntry
  pub sees : NoMore (is_by t) (slice_at v i) list
  pub adds : slice_at w i ≡ list ++ e ∷ []
  pub within : i < length w.slices
  pub others : (k : ℕ) → k ≢ i → NoMore (is_by t) (slice_at v k) (slice_at w k)
