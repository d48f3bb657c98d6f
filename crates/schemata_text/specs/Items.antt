-- The items of a schemata text, from left to right.
use Rattle.std.specs.Prelude.{ℕ, Bool, ◌==◌, List, [], ◌∷◌, map}
use Rattle.std.specs.List.{after_first, slice_split, flat_map}

-- a line, or an entry of the line before it
pub data Item : Type 0 where
  Line : List ℕ → Item
  Entry : List ℕ → Item

-- a newline, which separates lines
abbrev pub newline : ℕ → Bool
newline b = b == 10

-- a colon, which separates the name in a line from the rest
abbrev pub colon : ℕ → Bool
colon b = b == 58

-- a semicolon, which separates entries
abbrev pub semicolon : ℕ → Bool
semicolon b = b == 59

-- all pieces but an empty last one after another
abbrev pub without_empty_last : List (List ℕ) → List (List ℕ)
without_empty_last [] = []
without_empty_last (x ∷ []) = x ∷ []
without_empty_last (x ∷ [] ∷ []) = x ∷ []
without_empty_last (x ∷ [] ∷ z ∷ more) = x ∷ without_empty_last ([] ∷ z ∷ more)
without_empty_last (x ∷ (b ∷ bs) ∷ more) = x ∷ without_empty_last ((b ∷ bs) ∷ more)

-- the entries of a rest
abbrev pub items_of_rest : List ℕ → List Item
items_of_rest rest = map Entry (without_empty_last (slice_split semicolon rest))

-- a line, and the entries of what stands after its first colon
abbrev pub items_of_line : List ℕ → List Item
items_of_line line = Line line ∷ items_of_rest (after_first colon line)

-- each line of a text, followed by its entries
abbrev pub items_of : List ℕ → List Item
items_of text = flat_map items_of_line (slice_split newline text)
