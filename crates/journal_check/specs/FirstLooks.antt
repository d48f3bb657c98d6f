-- The first looks of the commands in a slice, by a key for each command and RMID.
-- (For functions and proofs: no promise of the program stands on it.)
use Rattle.std.specs.Prelude.{◌≡◌, ℕ, ◌+◌, ◌*◌, ◌<◌, ◌==◌, if◌then◌else◌, List, Option, Some, None, map, option_and_then, slice_get, length}
use Rattle.std.specs.BTreeMap.{get_by}
use Rattle.std.specs.List.{range_with_len}
use Rattle.std.specs.Ordering.{nat_cmp}
use Rattle.std.specs.declared.alloc.Global.{Global}
use Rattle.std.specs.declared.collections.BTreeMap.{BTreeMap}
use Rattle.cache_core.specs.declared.entry.SliceEntry.{SliceEntry}
use Rattle.journal_check.specs.Tables.{number_at}
use Rattle.run_law.specs.Journals.{JournalsValue, slice_at}
use Rattle.run_law.specs.Looks.{first_look, first_of, look_number, sum_of_all}
use Rattle.run_law.specs.Truth.{is_made_by}

-- the key of a command by its place, counted from 1, and an RMID
abbrev pub look_key : ℕ → ℕ → ℕ
look_key place rmid = place * 65536 + rmid

-- what is noted for a key
abbrev pub noted_for : BTreeMap ℕ ℕ Global → ℕ → Option ℕ
noted_for looks key = get_by (nat_cmp key) looks

-- for each command and RMID its first look in this list is noted
abbrev pub AreFirstLooks : List (List ℕ) → List SliceEntry → BTreeMap ℕ ℕ Global → Type 0
AreFirstLooks places entries looks =
    (t o n rmid : ℕ) → number_at places t o ≡ Some n → 0 < n → rmid < 65536 → noted_for looks (look_key n rmid) ≡ first_look t o rmid entries

-- the same with one entry more
abbrev pub NotesLook : List (List ℕ) → BTreeMap ℕ ℕ Global → BTreeMap ℕ ℕ Global → SliceEntry → Type 0
NotesLook places old new e =
    (t o n rmid : ℕ) → number_at places t o ≡ Some n → 0 < n → rmid < 65536
    → noted_for new (look_key n rmid) ≡ first_of (noted_for old (look_key n rmid)) (if is_made_by t o e then look_number rmid e.what else None)

-- a number is noted for a key, where none was
abbrev pub NotesFirst : BTreeMap ℕ ℕ Global → BTreeMap ℕ ℕ Global → ℕ → ℕ → Type 0
NotesFirst old new key lines = (other : ℕ) → noted_for new other ≡ (if key == other then first_of (noted_for old key) (Some lines) else noted_for old other)

-- the sum of so many of these numbers, where each is there
abbrev pub sum_found : (ℕ → Option ℕ) → ℕ → Option ℕ
sum_found found n = sum_of_all (map found (range_with_len 0 n))

-- what the list of a slice has for a key
abbrev pub found_in : List (BTreeMap ℕ ℕ Global) → ℕ → ℕ → Option ℕ
found_in looks x key = option_and_then (λ (m : BTreeMap ℕ ℕ Global). noted_for m key) (slice_get looks x)

-- the sum of the first looks of a command at this place for a need, over the slices of its domain, where each is there
abbrev pub looked_in : List (BTreeMap ℕ ℕ Global) → ℕ → ℕ → ℕ × ℕ → Option ℕ
looked_in looks slices place need = sum_found (λ x. found_in looks (need.0 * slices + x) (look_key place need.1)) slices

-- these counts are the sums of the first looks for these needs
abbrev pub AreCounted : List (BTreeMap ℕ ℕ Global) → ℕ → ℕ → List (ℕ × ℕ) → List ℕ → Type 0
AreCounted looks slices place needs counts = (i n : ℕ) (need : ℕ × ℕ) → slice_get needs i ≡ Some need → slice_get counts i ≡ Some n → looked_in looks slices place need ≡ Some n

-- these are the first looks of the first n slices
pub record AreAllFirstLooks (places : List (List ℕ)) (j : JournalsValue) (n : ℕ) (looks : List (BTreeMap ℕ ℕ Global)) : Type 0 where
  pub count : length looks ≡ n
  pub each : (i : ℕ) (m : BTreeMap ℕ ℕ Global) → slice_get looks i ≡ Some m → AreFirstLooks places (slice_at j i) m
