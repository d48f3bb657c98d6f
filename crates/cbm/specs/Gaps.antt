-- What a gap is, way by way.
-- (For functions and proofs: no promise of the program stands on it.)
use Rattle.std.specs.Prelude.{◌≡◌, ℕ, ◌^◌, ◌<◌, ◌↔◌, false, IsTrue}
use Rattle.cbm.specs.Masks.{has_way, ways_of}
use Rattle.cbm.specs.Validity.{has_gaps}

-- a way that a mask lacks between two that it has
pub record Missing (mask : ℕ) : Type 0 where
  pub low : ℕ
  pub way : ℕ
  pub high : ℕ
  pub above_low : low < way
  pub below_high : way < high
  pub has_low : IsTrue (has_way mask low)
  pub lacks_way : has_way mask way ≡ false
  pub has_high : IsTrue (has_way mask high)

-- a mask has gaps exactly where it lacks a way between two that it has
abbrev pub GapsAreMissingWays : Type 0
GapsAreMissingWays = (mask : ℕ) → mask < 2 ^ 64 → IsTrue (has_gaps (ways_of mask)) ↔ Missing mask
