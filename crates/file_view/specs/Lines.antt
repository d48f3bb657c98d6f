-- Texts on their lines.
use Rattle.std.specs.Prelude.{ℕ, List, [], ◌∷◌, ◌++◌}
use Rattle.std.specs.List.{flat_map}

-- a text on its line
abbrev pub on_line : List ℕ → List ℕ
on_line text = text ++ 10 ∷ []

-- texts, each on its line
abbrev pub on_lines : List (List ℕ) → List ℕ
on_lines texts = flat_map on_line texts
