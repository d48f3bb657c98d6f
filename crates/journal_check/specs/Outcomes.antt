-- What a set answers to an access, by its places.
-- (For functions and proofs: no promise of the program stands on it.)
use Rattle.std.specs.Prelude.{◌≡◌, ℕ, ◌%◌, ◌<◌, ◌≤◌, Bool, IsSome, IsTrue, Option, Some, nat_lt, option_map, true}
use Rattle.cache_core.specs.Fills.{IsOutcome, IsPlaceOf, IsVictim, Resident}
use Rattle.journal_check.specs.declared.cached_line.CachedLine.{CachedLine}
use Rattle.cbm.specs.Masks.{has_way}
use Rattle.journal_check.specs.Slots.{HasLine, SlotsValue, age_of, place_at, resident_of}

-- when a place was used, and none where it is empty
abbrev pub used_at : SlotsValue → ℕ → ℕ → Option ℕ
used_at v set way = option_map (λ (p : CachedLine). p.used) (place_at v set way)

-- no way of a set holds a line
abbrev pub IsMissing : SlotsValue → ℕ → ℕ → Type 0
IsMissing v set line = (way : ℕ) → way < v.shape.ways → HasLine (place_at v set way) line → ⊥

-- each way of a mask below this one holds a line
abbrev pub AreFull : SlotsValue → ℕ → ℕ → ℕ → Type 0
AreFull v set mask below = (way : ℕ) → way < below → IsTrue (has_way mask way) → IsSome (used_at v set way)

-- a line is younger than one that was used at this time, or as old and not before it
pub record IsNotOlder (other : Option ℕ) (used : ℕ) (is_before : Bool) : Type 0 where
  pub stamp : ℕ
  pub there : other ≡ Some stamp
  pub not_older : used ≤ stamp
  pub younger : is_before ≡ true → used < stamp

-- each way of a mask holds a line that is not older than this way's
abbrev pub AreNotOlder : SlotsValue → ℕ → ℕ → ℕ → ℕ → Type 0
AreNotOlder v set mask way used = (w : ℕ) → w < v.shape.ways → IsTrue (has_way mask w) → IsNotOlder (used_at v set w) used (nat_lt w way)

-- what the places of a set hold, and how old they are
abbrev pub residents_at : SlotsValue → ℕ → ℕ → Option Resident
residents_at v set way = resident_of (place_at v set way)

abbrev pub ages_at : SlotsValue → ℕ → ℕ → ℕ
ages_at v set way = age_of (place_at v set way)

-- a fill takes this way of a set
abbrev pub IsVictimAt : SlotsValue → ℕ → ℕ → ℕ → Type 0
IsVictimAt v set mask way = IsVictim v.shape.ways mask (residents_at v set) (ages_at v set) way

-- a set answers so to an access
abbrev pub IsOutcomeAt : SlotsValue → ℕ → ℕ → Bool → ℕ → Type 0
IsOutcomeAt v mask line hit way = IsOutcome v.shape.ways mask (residents_at v (line % v.shape.sets)) (ages_at v (line % v.shape.sets)) line hit way

-- this way holds a line, or none where no way is given
abbrev pub IsPlaceAt : SlotsValue → ℕ → Option ℕ → Type 0
IsPlaceAt v line way = IsPlaceOf v.shape.ways (residents_at v (line % v.shape.sets)) line way
