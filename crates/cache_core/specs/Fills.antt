-- What one set answers to an access, whatever keeps its lines and ages: a hit in any way, or a fill of a way of the mask.
-- (Intel SDM volume 3, cache allocation: a mask bounds where a line may be filled, and not where it may be hit. That the
-- lowest empty way is filled first, and else the least recently used one, is this project's profile.)
use Rattle.std.specs.Prelude.{◌≡◌, ℕ, ◌<◌, ◌≤◌, Bool, true, false, Option, Some, None, option_map, IsTrue, IsSome}
use Rattle.cbm.specs.Masks.{has_way}

-- a line in a place, with the RMID for which it was filled
pub record Resident : Type 0 where
  pub line : ℕ
  pub rmid : ℕ

-- this way holds the line
abbrev pub Holds : (ℕ → Option Resident) → ℕ → ℕ → Type 0
Holds residents line way = option_map (λ (r : Resident). r.line) (residents way) ≡ Some line

-- The way that a fill takes: the lowest empty way of the mask; where none is empty, the one that was used longest ago, the lowest of these.
pub record IsVictim (ways mask : ℕ) (residents : ℕ → Option Resident) (age : ℕ → ℕ) (way : ℕ) : Type 0 where
  pub within : way < ways
  pub allowed : IsTrue (has_way mask way)
  pub lowest_empty : residents way ≡ None → (w : ℕ) → w < way → IsTrue (has_way mask w) → IsSome (residents w)
  pub none_empty : IsSome (residents way) → (w : ℕ) → w < ways → IsTrue (has_way mask w) → IsSome (residents w)
  pub oldest : IsSome (residents way) → (w : ℕ) → w < ways → IsTrue (has_way mask w) → age way ≤ age w
  pub lowest : IsSome (residents way) → (w : ℕ) → w < way → IsTrue (has_way mask w) → age way < age w

-- The outcome of an access to a set with these residents: a hit in a way that holds the line, or a fill where none holds it.
abbrev pub IsOutcome : ℕ → ℕ → (ℕ → Option Resident) → (ℕ → ℕ) → ℕ → Bool → ℕ → Type 0
IsOutcome ways mask residents age line true way = (way < ways) × Holds residents line way
IsOutcome ways mask residents age line false way = ((w : ℕ) → w < ways → Holds residents line w → ⊥) × IsVictim ways mask residents age way

-- The way that holds the line, and none exactly where no way does.
abbrev pub IsPlaceOf : ℕ → (ℕ → Option Resident) → ℕ → Option ℕ → Type 0
IsPlaceOf ways residents line (Some way) = (way < ways) × Holds residents line way
IsPlaceOf ways residents line None = (w : ℕ) → w < ways → Holds residents line w → ⊥
