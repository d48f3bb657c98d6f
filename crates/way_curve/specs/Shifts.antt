-- What brings a line to the front of a list.
-- (For functions and proofs: no promise of the program stands on it.)
use Rattle.std.specs.Prelude.{◌≡◌, ℕ, ◌==◌, if◌then◌else◌, List, [], ◌∷◌, ◌++◌, Some, None, position}
use Rattle.way_curve.specs.declared.shifting.Shift.{Shift}
use Rattle.way_curve.specs.declared.shifting.Shift.TheVariants.{Found, Last}

-- the list without the first place that has this line
abbrev pub without_first : ℕ → List ℕ → List ℕ
without_first x [] = []
without_first x (y ∷ lines) = if y == x then lines else y ∷ without_first x lines

-- The line stands in front now: it was at the place that is told, or nowhere, and then the last line has no place.
abbrev pub IsShift : List ℕ → List ℕ → ℕ → Shift → Type 0
IsShift old new line (Found place) = (position (λ (y : ℕ). y == line) old ≡ Some place) × (new ≡ line ∷ without_first line old)
IsShift old new line (Last last) = (position (λ (y : ℕ). y == line) old ≡ None) × (new ++ last ∷ [] ≡ line ∷ old)
