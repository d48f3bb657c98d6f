-- Inputs that are too large.
use Rattle.std.specs.Prelude.{◌≡◌, ℕ, ◌≤◌, ◌<◌, ◌⊎◌, List, [], ◌∷◌, ◌++◌, length, codes}

-- the line that refuses an input of more bytes than the most
abbrev pub too_large_line : List ℕ
too_large_line = codes "line 0: script too large" ++ 10 ∷ []

-- bytes that are more than the most are refused as too large, and fewer as the program refuses them
abbrev pub RefusesWithin : ℕ → (List ℕ → List ℕ → Type 0) → List ℕ → List ℕ → Type 0
RefusesWithin most refuses bytes line = ((most < length bytes) × (line ≡ too_large_line)) ⊎ ((length bytes ≤ most) × refuses bytes line)

-- there are reports of no more bytes than the most, as the program makes them
abbrev pub ReportsWithin : {T : Type 0} → ℕ → (List ℕ → T → List ℕ → Type 0) → List ℕ → T → List ℕ → Type 0
ReportsWithin most reports bytes outcome text = (length bytes ≤ most) × reports bytes outcome text
