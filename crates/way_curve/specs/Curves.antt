-- How many uses of lines hit in private caches, one for each set, of so many ways.
use Rattle.std.specs.Prelude.{ℕ, ◌+◌, ◌%◌, Bool, ◌==◌, List, [], ◌∷◌, ◌++◌, map}
use Rattle.std.specs.List.{filter}
use Rattle.lists.specs.Sums.{one_if}
use Rattle.private_lru.specs.declared.item.Item.{Item}
use Rattle.private_lru.specs.declared.item.Item.TheVariants.{Use}
use Rattle.private_lru.specs.Private.{private_hit}

-- the uses of a set's lines among these, in order
abbrev pub uses_of_set : ℕ → ℕ → List ℕ → List Item
uses_of_set sets set lines = map (λ (x : ℕ). Use x) (filter (λ (x : ℕ). x % sets == set) lines)

-- a use of a line after these that hits in the private cache of its set
abbrev pub is_set_hit : ℕ → ℕ → List ℕ → ℕ → Bool
is_set_hit sets ways earlier x = private_hit ways (uses_of_set sets (x % sets) earlier) x

-- how many of these uses hit in caches that have seen some earlier ones
abbrev pub set_hits_after : ℕ → ℕ → List ℕ → List ℕ → ℕ
set_hits_after sets ways earlier [] = 0
set_hits_after sets ways earlier (x ∷ lines) = one_if (is_set_hit sets ways earlier x) + set_hits_after sets ways (earlier ++ x ∷ []) lines

-- how many of these uses hit in caches that are empty at first
abbrev pub set_hits_of : ℕ → ℕ → List ℕ → ℕ
set_hits_of sets ways lines = set_hits_after sets ways [] lines
