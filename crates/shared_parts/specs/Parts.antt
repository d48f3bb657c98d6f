-- Parts of a state, each a number and a value.
use Rattle.std.specs.Prelude.{◌≡◌, ◌⊎◌, ℕ, ◌==◌, Bool, true, false, if◌then◌else◌, List, [], ◌∷◌, map}

module _ {P : Type 0} where
  -- whether the part with this number is among them
  abbrev pub has : ℕ → List (ℕ × P) → Bool
  has k [] = false
  has k (x ∷ xs) = if x.0 == k then true else has k xs

  -- the state has each of these parts
  abbrev pub Fits : (ℕ → P) → List (ℕ × P) → Type 0
  Fits at [] = Unit {0}
  Fits at (x ∷ xs) = (at x.0 ≡ x.1) × Fits at xs

  -- no part is among both
  abbrev pub AreApart : List (ℕ × P) → List (ℕ × P) → Type 0
  AreApart xs ys = (k : ℕ) → has k xs ≡ true → has k ys ≡ false

  -- the first of them, and the others
  abbrev pub first_of : List (ℕ × P) → List (ℕ × P)
  first_of [] = []
  first_of (x ∷ xs) = x ∷ []

  abbrev pub rest_of : List (ℕ × P) → List (ℕ × P)
  rest_of [] = []
  rest_of (x ∷ xs) = xs

module _ {E P : Type 0} where
  -- what an event makes of these parts
  abbrev pub parts_after : (E → ℕ → P → P) → E → List (ℕ × P) → List (ℕ × P)
  parts_after after e xs = map (λ x. (x.0, after e x.0 x.1)) xs

  -- the state after an event that happened to these parts
  abbrev pub state_after : (E → ℕ → P → P) → E → List (ℕ × P) → (ℕ → P) → ℕ → P
  state_after after e xs at k = if has k xs then after e k (at k) else at k

  -- an event may happen to these parts: whatever state has them, the state after it can be reached
  abbrev pub MayHappen : ((ℕ → P) → Type 0) → (E → ℕ → P → P) → E → List (ℕ × P) → Type 0
  MayHappen reached after e xs = (at : ℕ → P) → reached at → Fits at xs → reached (state_after after e xs at)

  -- it may happen to these parts while the first word shows this number
  abbrev pub MayHappenWhere : ((ℕ → P) → Type 0) → (P → ℕ) → (E → ℕ → P → P) → E → ℕ → List (ℕ × P) → Type 0
  MayHappenWhere reached shown after e number xs = (at : ℕ → P) → reached at → shown (at 0) ≡ number → Fits at xs → reached (state_after after e xs at)

  -- an event leaves what is shown as it is: part 0 is not among these, or shows the same number after it
  abbrev pub IsQuiet : (P → ℕ) → (E → ℕ → P → P) → E → List (ℕ × P) → Type 0
  IsQuiet shown after e [] = Unit {0}
  IsQuiet shown after e (x ∷ xs) = (x.0 ≡ 0 → shown (after e x.0 x.1) ≡ shown x.1) × IsQuiet shown after e xs

  -- what the parts are after an event that happens, or not
  abbrev pub parts_where : (E → ℕ → P → P) → E → Bool → List (ℕ × P) → List (ℕ × P)
  parts_where after e happens xs = if happens then parts_after after e xs else xs

-- part 0 is among these, and shows this number
abbrev pub Shows : {P : Type 0} → (P → ℕ) → ℕ → List (ℕ × P) → Type 0
Shows shown number [] = ⊥
Shows shown number (x ∷ xs) = ((x.0 ≡ 0) × (shown x.1 ≡ number)) ⊎ Shows shown number xs
