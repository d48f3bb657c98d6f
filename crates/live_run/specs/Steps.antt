-- What a step leaves a thread with.
-- (For functions and proofs: no promise of the program stands on it.)
use Rattle.std.specs.Prelude.{◌≡◌, ◌≢◌, ℕ, ◌<◌, ◌≤◌, List, length, Option, None, Some}
use Rattle.cache_core.specs.Stands.{entry}
use Rattle.cache_core.specs.declared.entry.SliceEntry.{SliceEntry}
use Rattle.cache_core.specs.declared.entry.What.{What}
use Rattle.cache_core.specs.declared.entry.What.TheVariants as whats
use Rattle.step_world.specs.declared.reached.Reached.{Reached}
use Rattle.live_law.specs.SeenJournals.{AddsEntry, SeesMore}
use Rattle.live_run.specs.Cells.{pass_in}
use Rattle.live_run.specs.Names.{SeenValue, pass_at, seen_by}
use Rattle.rc_base.specs.declared.names.Tag.{Tag}
use Rattle.run_law.specs.Owed.{undecided, what_of}
use Rattle.seen_journal.specs.Passes.{HasSeen, PassValue}
use Rattle.seen_journal.specs.Prefixes.{IsPrefix, longer_of}
use Rattle.tree_law.specs.declared.follow.Follow.{Follow}

-- ---- an entry

-- It has this entry more in slice i, and of other slices it has seen what it had.
pub record HasAdded (i : ℕ) (e : SliceEntry) (old new : SeenValue) : Type 0 where
  pub thread : new.thread ≡ old.thread
  pub adds : AddsEntry old.thread i e (seen_by old) (seen_by new)
  pub others : (k : ℕ) → k ≢ i → pass_at new k ≡ pass_at old k

-- that of a follow-up
pub record HasFollowed (i op epoch : ℕ) (f : Follow) (old new : SeenValue) : Type 0 where
  pub what : What
  pub owed : undecided what ≡ what_of f
  pub added : HasAdded i (entry old.thread op epoch what) old new

-- It has added nothing, and may have seen more of the tree's history.
pub record HasSeenTree (old new : SeenValue) : Type 0 where
  pub thread : new.thread ≡ old.thread
  pub sees : SeesMore old.thread (seen_by old) (seen_by new)
  pub slices : new.slices ≡ old.slices

-- the access stands in slice i; or its tag was stale, and the thread has seen a longer history of the tree
abbrev pub HasTouched : ℕ → ℕ → Tag → ℕ → SeenValue → SeenValue → Option Reached → Type 0
HasTouched i op tag line old new None = HasSeenTree old new × (tag.epoch < length new.tree.seen)
HasTouched i op tag line old new (Some r) =
    (mid : SeenValue) × HasSeenTree old mid × HasAdded i (entry old.thread op tag.epoch (whats.Access r.hit r.way tag.owner tag.rmid tag.mask line)) mid new × (new.tree ≡ mid.tree)

-- ---- meetings

-- It has added nothing, and may have seen more of all journals.
pub record HasTaken (old new : SeenValue) : Type 0 where
  pub thread : new.thread ≡ old.thread
  pub sees : SeesMore old.thread (seen_by old) (seen_by new)

-- Of two lists of passes of the same journals, those before `upto` have met, and the others are what they were.
pub record HaveMet (upto : ℕ) (cell mine cell_now mine_now : List (PassValue SliceEntry)) : Type 0 where
  pub cell_count : length cell_now ≡ length cell
  pub mine_count : length mine_now ≡ length mine
  pub cell_seen : (i : ℕ) → i < upto → i < length cell → HasSeen (pass_in cell i) (pass_in cell_now i) (longer_of (pass_in cell i).seen (pass_in mine i).seen)
  pub mine_seen : (i : ℕ) → i < upto → i < length cell → HasSeen (pass_in mine i) (pass_in mine_now i) (longer_of (pass_in cell i).seen (pass_in mine i).seen)
  pub cell_rest : (i : ℕ) → upto ≤ i → pass_in cell_now i ≡ pass_in cell i
  pub mine_rest : (i : ℕ) → upto ≤ i → pass_in mine_now i ≡ pass_in mine i

-- The second list's passes have seen what the first's have.
pub record HaveSeenSame (cell mine : List (PassValue SliceEntry)) : Type 0 where
  pub count : length cell ≡ length mine
  pub same : (i : ℕ) → (pass_in cell i).seen ≡ (pass_in mine i).seen

-- each pass has seen at least what it had
abbrev pub HaveGrown : List (PassValue SliceEntry) → List (PassValue SliceEntry) → Type 0
HaveGrown old new = (i : ℕ) → IsPrefix (pass_in old i).seen (pass_in new i).seen
