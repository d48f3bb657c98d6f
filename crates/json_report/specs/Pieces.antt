-- Pieces of a report's text: some items of a list, and some members of an object.
-- (For functions and proofs: no promise of the program stands on it.)
use Rattle.std.specs.Prelude.{ℕ, Bool, true, List, [], ◌∷◌, ◌++◌}
use Rattle.json.specs.Print.{quoted}
use Rattle.serde_json.specs.Data.{Data}
use Rattle.serde_json.specs.Written.{comma_if, compact_text}

-- items, with a comma before each but the first; where others stand before them, the first has one too
abbrev pub items_told : Bool → List Data → List ℕ
items_told later [] = []
items_told later (d ∷ ds) = comma_if later ++ compact_text d ++ items_told true ds

-- a key with its colon
abbrev pub key_told : Bool → List ℕ → List ℕ
key_told later key = comma_if later ++ quoted key ++ 58 ∷ []

-- members, with commas in the same way
abbrev pub members_told : Bool → List (List ℕ × Data) → List ℕ
members_told later [] = []
members_told later (m ∷ ms) = key_told later m.0 ++ compact_text m.1 ++ members_told true ms
