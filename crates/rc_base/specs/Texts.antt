-- Comparing texts.
use Rattle.std.specs.Prelude.{ℕ, Bool, true, false, ◌==◌, ◌&&◌, List, [], ◌∷◌}

-- whether two texts have the same bytes
unfoldable pub is_text : List ℕ → List ℕ → Bool
is_text [] [] = true
is_text [] (c ∷ cs) = false
is_text (b ∷ bs) [] = false
is_text (b ∷ bs) (c ∷ cs) = (b == c) && is_text bs cs
