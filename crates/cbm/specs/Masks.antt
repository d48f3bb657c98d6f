-- A capacity bitmask is a set of ways.
use Rattle.std.specs.Prelude.{◌≡◌, ℕ, ◌+◌, Bool, ◌==◌, List, [], ◌∷◌, filter, if◌then◌else◌}
use Rattle.std.specs.Int.{bit_at}
use Rattle.std.specs.List.{list_any, range_with_len}

-- whether a mask has this way: bit w of a mask governs way w
abbrev pub has_way : ℕ → ℕ → Bool
has_way mask way = bit_at mask way == 1

-- the ways of a mask, rising; a mask is read as a number of 64 bits
unfoldable pub ways_of : ℕ → List ℕ
ways_of mask = filter (has_way mask) (range_with_len 0 64)

-- whether some way is in both masks
unfoldable pub overlaps : ℕ → ℕ → Bool
overlaps a b = list_any (has_way b) (ways_of a)

-- of rising ways, those that are adjacent from the least on
abbrev pub lowest_run : List ℕ → List ℕ
lowest_run [] = []
lowest_run (w ∷ []) = w ∷ []
lowest_run (v ∷ w ∷ ways) = v ∷ (if w == v + 1 then lowest_run (w ∷ ways) else [])

-- (For proofs.) the ways of a mask are just those that are in some of these masks
abbrev pub IsUnion : ℕ → List ℕ → Type 0
IsUnion union masks = (way : ℕ) → has_way union way ≡ list_any (λ mask. has_way mask way) masks
