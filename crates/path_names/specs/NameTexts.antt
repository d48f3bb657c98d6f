-- Names one after the other in one text, by the places where they end.
-- (For functions and proofs: no promise of the program stands on it.)
use Rattle.std.specs.Prelude.{◌≡◌, ℕ, zero, suc, ◌≤◌, List, [], ◌∷◌, slice_range, slice_index_or}
use Rattle.std.specs.Coded.{Coded-set, coded_ℕ, ×_prop, le_prop}

-- the names in a text from this place on, by the places where they end
abbrev pub names_from : ℕ → List ℕ → List ℕ → List (List ℕ)
names_from start text [] = []
names_from start text (end ∷ ends) = slice_range text start end ∷ names_from end text ends

-- where the name at a place begins
abbrev pub start_of : ℕ → List ℕ → ℕ → ℕ
start_of start ends zero = start
start_of start ends (suc place) = slice_index_or ends place 0

-- no name ends before it begins, and the last ends where the text does
abbrev pub EndsRise : ℕ → List ℕ → ℕ → Type 0
EndsRise start [] len = start ≡ len
EndsRise start (end ∷ ends) len = (start ≤ end) × EndsRise end ends len

-- that ends rise has at most one proof
pub EndsRise-prop : (start : ℕ) (ends : List ℕ) (len : ℕ) → IsProp (EndsRise start ends len)
EndsRise-prop start [] len = Coded-set coded_ℕ start len
EndsRise-prop start (end ∷ ends) len = ×_prop le_prop (EndsRise-prop end ends len)
