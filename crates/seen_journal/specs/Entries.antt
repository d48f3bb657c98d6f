-- Entries with the numbers of the passes that added them.
use Rattle.std.specs.Prelude.{ℕ, zero, suc, ◌==◌, Bool, false, if◌then◌else◌, List, [], ◌∷◌}

module _ {E : Type 0} where
  -- the entries of one pass, in order
  abbrev pub entries_of : ℕ → List (ℕ × E) → List E
  entries_of n [] = []
  entries_of n (x ∷ xs) = if x.0 == n then x.1 ∷ entries_of n xs else entries_of n xs

  -- the entries without the numbers of their passes
  abbrev pub list_of : List (ℕ × E) → List E
  list_of [] = []
  list_of (x ∷ xs) = x.1 ∷ list_of xs

  -- whether the entry at a position is of this pass
  abbrev pub owns_at : ℕ → List (ℕ × E) → ℕ → Bool
  owns_at n [] k = false
  owns_at n (x ∷ xs) zero = n == x.0
  owns_at n (x ∷ xs) (suc k) = owns_at n xs k
