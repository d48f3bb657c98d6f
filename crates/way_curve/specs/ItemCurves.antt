-- How many uses of lines hit in private caches, one for each set, from which lines may be dropped.
use Rattle.std.specs.Prelude.{ℕ, ◌+◌, ◌%◌, Bool, true, false, ◌==◌, List, [], ◌∷◌, ◌++◌, count_by}
use Rattle.std.specs.List.{filter}
use Rattle.lists.specs.Sums.{one_if}
use Rattle.private_lru.specs.declared.item.Item.{Item}
use Rattle.private_lru.specs.declared.item.Item.TheVariants.{Use, Drop}
use Rattle.private_lru.specs.Private.{private_hit}

-- the line that is used or dropped
abbrev pub line_of : Item → ℕ
line_of (Use x) = x
line_of (Drop x) = x

-- whether the line is used
abbrev pub is_use : Item → Bool
is_use (Use x) = true
is_use (Drop x) = false

-- how many of these are uses
abbrev pub uses_in : List Item → ℕ
uses_in items = count_by is_use items

-- the items of a set's lines among these, in order
abbrev pub items_of_set : ℕ → ℕ → List Item → List Item
items_of_set sets set items = filter (λ (item : Item). line_of item % sets == set) items

-- whether an item after these is a use that hits in the private cache of its set
abbrev pub is_item_hit : ℕ → ℕ → List Item → Item → Bool
is_item_hit sets ways earlier (Use x) = private_hit ways (items_of_set sets (x % sets) earlier) x
is_item_hit sets ways earlier (Drop x) = false

-- how many of these are uses that hit, in caches that have seen some earlier ones
abbrev pub item_hits_after : ℕ → ℕ → List Item → List Item → ℕ
item_hits_after sets ways earlier [] = 0
item_hits_after sets ways earlier (item ∷ items) = one_if (is_item_hit sets ways earlier item) + item_hits_after sets ways (earlier ++ item ∷ []) items

-- how many of these are uses that hit, in caches that are empty at first
abbrev pub item_hits_of : ℕ → ℕ → List Item → ℕ
item_hits_of sets ways items = item_hits_after sets ways [] items
