-- One set of a cache by its ways: a list of lines, a list of stamps, and a word with a bit for each way that holds a line.
-- (Intel SDM volume 3, cache allocation: a mask bounds where a line may be filled. The order of choice is this project's
-- profile.)
-- (For functions and proofs: no promise of the program stands on it.)
use Rattle.std.specs.Prelude.{◌≡◌, ℕ, ◌<◌, ◌≤◌, List, length, IsTrue, false, slice_index}
use Rattle.cbm.specs.Masks.{has_way}

-- the way holds this line
abbrev pub HoldsLine : List ℕ → ℕ → ℕ → ℕ → Type 0
HoldsLine lines valid line way = IsTrue (has_way valid way) × (slice_index lines way ≡ line)

-- the lowest way of the mask that is not valid, or 32 where each of its ways is
pub record IsLowestEmpty (valid mask way : ℕ) : Type 0 where
  pub limit : way ≤ 32
  pub allowed : way < 32 → IsTrue (has_way mask way)
  pub empty : way < 32 → has_way valid way ≡ false
  pub full_below : (w : ℕ) → w < way → IsTrue (has_way mask w) → IsTrue (has_way valid w)

-- of the ways of the mask below a limit, the one with the least stamp, the lowest of these
pub record IsLeast (used : List ℕ) (mask limit way : ℕ) : Type 0 where
  pub within : way < length used
  pub allowed : IsTrue (has_way mask way)
  pub oldest : (w : ℕ) → w < limit → IsTrue (has_way mask w) → slice_index used way ≤ slice_index used w
  pub lowest : (w : ℕ) → w < way → IsTrue (has_way mask w) → slice_index used way < slice_index used w

-- the lowest way of the mask that is not valid, and where each is valid the one with the least stamp, the lowest of these
pub record IsChosen (used : List ℕ) (valid mask way : ℕ) : Type 0 where
  pub within : way < length used
  pub allowed : IsTrue (has_way mask way)
  pub lowest_empty : has_way valid way ≡ false → (w : ℕ) → w < way → IsTrue (has_way mask w) → IsTrue (has_way valid w)
  pub none_empty : IsTrue (has_way valid way) → (w : ℕ) → w < length used → IsTrue (has_way mask w) → IsTrue (has_way valid w)
  pub oldest : IsTrue (has_way valid way) → (w : ℕ) → w < length used → IsTrue (has_way mask w) → slice_index used way ≤ slice_index used w
  pub lowest : IsTrue (has_way valid way) → (w : ℕ) → w < way → IsTrue (has_way mask w) → slice_index used way < slice_index used w
