-- Names, each kept once.
use Rattle.std.specs.Prelude.{◌≡◌, ℕ, length, take, List, [], ◌∷◌, ◌++◌, if◌then◌else◌}
use Rattle.std.specs.List.{list_any, position_or_len}
use Rattle.std.specs.Str.{bytes_eq}
use Rattle.path_names.specs.declared.names.NameId.{NameId}

-- the names with this one among them: a new name is added at the end
abbrev pub interned : List ℕ → List (List ℕ) → List (List ℕ)
interned name names = if list_any (bytes_eq name) names then names else names ++ name ∷ []

-- (For proofs.) all names that were known keep their numbers
abbrev pub Keeps : List (List ℕ) → List (List ℕ) → Type 0
Keeps old new = take (length old) new ≡ old

-- the number that the name then has: its place, or the next free place where it is new
abbrev pub number_of : List ℕ → List (List ℕ) → ℕ
number_of name names = position_or_len (bytes_eq name) names

-- that number, as a `NameId`
abbrev pub id_of : List ℕ → List (List ℕ) → NameId
id_of name names = record { 0 = number_of name names }
