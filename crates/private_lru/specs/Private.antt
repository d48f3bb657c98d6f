-- Which uses of lines hit in a private cache that replaces the line used longest ago, and from which lines may be dropped.
use Rattle.std.specs.Prelude.{ℕ, Bool, true, false, not, ◌&&◌, ◌==◌, nat_lt, if◌then◌else◌, List, [], ◌∷◌, ◌++◌, length, reverse, take}
use Rattle.std.specs.List.{list_any, filter}
use Rattle.private_lru.specs.declared.item.Item.{Item}
use Rattle.private_lru.specs.declared.item.Item.TheVariants.{Use, Drop}

-- (For proofs.) whether the line is in the list
abbrev pub among : ℕ → List ℕ → Bool
among x lines = list_any (λ (y : ℕ). y == x) lines

-- the list without the line
abbrev pub without : ℕ → List ℕ → List ℕ
without x lines = filter (λ (y : ℕ). not (y == x)) lines

-- ---- items, the latest first

-- the lines that these items use, and do not drop after their last use
abbrev pub alive : List Item → List ℕ
alive [] = []
alive (Use x ∷ items) = x ∷ without x (alive items)
alive (Drop x ∷ items) = without x (alive items)

-- whether the last item of this line is a use
abbrev pub is_used : ℕ → List Item → Bool
is_used x [] = false
is_used x (Use y ∷ items) = if y == x then true else is_used x items
is_used x (Drop y ∷ items) = if y == x then false else is_used x items

-- the items since the last one of this line
abbrev pub since : ℕ → List Item → List Item
since x [] = []
since x (Use y ∷ items) = if y == x then [] else Use y ∷ since x items
since x (Drop y ∷ items) = if y == x then [] else Drop y ∷ since x items

-- at each point of these items, before the first too, fewer than `ways` lines are alive
abbrev pub always_fewer : ℕ → List Item → Bool
always_fewer ways [] = nat_lt 0 ways
always_fewer ways (item ∷ items) = nat_lt (length (alive (item ∷ items))) ways && always_fewer ways items

-- ---- items in order

-- A use of x after these items hits in a private cache of this many ways: the last item of x is a use, and at no point since
-- were as many other lines alive, of those used since.
abbrev pub private_hit : ℕ → List Item → ℕ → Bool
private_hit ways earlier x = is_used x (reverse earlier) && always_fewer ways (since x (reverse earlier))

-- (For proofs.) whether an item is a use that hits
abbrev pub is_hit : ℕ → List Item → Item → Bool
is_hit ways earlier (Use x) = private_hit ways earlier x
is_hit ways earlier (Drop x) = false

-- (For proofs.) whether each of these items is a use that hits, after some earlier ones
abbrev pub hits_after : ℕ → List Item → List Item → List Bool
hits_after ways earlier [] = []
hits_after ways earlier (item ∷ items) = is_hit ways earlier item ∷ hits_after ways (earlier ++ item ∷ []) items

-- (For proofs.) whether each of these items is a use that hits, in a cache that is empty at first
abbrev pub hits_of : ℕ → List Item → List Bool
hits_of ways items = hits_after ways [] items

-- ---- a list of the lines that are kept, the one used last in front

-- (For proofs.) the lines that are kept after one item more
abbrev pub kept_after : ℕ → List ℕ → Item → List ℕ
kept_after ways lines (Use x) = take ways (x ∷ without x lines)
kept_after ways lines (Drop x) = without x lines

-- (For proofs.) whether an item is a use of a line that is kept
abbrev pub was_kept : List ℕ → Item → Bool
was_kept lines (Use x) = among x lines
was_kept lines (Drop x) = false
