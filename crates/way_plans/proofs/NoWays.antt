-- With no ways every use misses.
use Rattle.std.proofs.Common.{◌≡◌, ℕ, false, List, [], ◌∷◌, ◌++◌, length, reverse, refl, ap, arith}
use Rattle.std.specs.Prelude.{◌%◌, nat_lt}
use Rattle.std.proofs.lemmas.Bool.{and_left, and_right, le-ltb}
use Rattle.lists.specs.Sums.{one_if}
use Rattle.private_lru.specs.Private.{alive, always_fewer, is_used, private_hit, since}
use Rattle.private_lru.specs.declared.item.Item.{Item}
use Rattle.private_lru.specs.declared.item.Item.TheVariants.{Use, Drop}
use Rattle.way_curve.specs.ItemCurves.{is_item_hit, item_hits_after, items_of_set, uses_in}
use Rattle.way_plans.specs.Plans.{misses_with}

-- at no point are fewer than no lines alive
always_fewer-none : (items : List Item) → always_fewer 0 items ≡ false
always_fewer-none [] = refl
always_fewer-none (item ∷ items) = and_left (nat_lt (length (alive (item ∷ items))) 0) (always_fewer 0 items) (le-ltb (length (alive (item ∷ items))) 0 (omega arith))

-- so nothing hits
private_hit-none : (items : List Item) (x : ℕ) → private_hit 0 items x ≡ false
private_hit-none items x = and_right (is_used x (reverse items)) (always_fewer 0 (since x (reverse items))) (always_fewer-none (since x (reverse items)))

-- no item is a use that does
is_item_hit-none : (sets : ℕ) (earlier : List Item) (item : Item) → is_item_hit sets 0 earlier item ≡ false
is_item_hit-none sets earlier (Use x) = private_hit-none (items_of_set sets (x % sets) earlier) x
is_item_hit-none sets earlier (Drop x) = refl

-- and none of several is
item_hits_after-none : (sets : ℕ) (earlier items : List Item) → item_hits_after sets 0 earlier items ≡ 0
item_hits_after-none sets earlier [] = refl
item_hits_after-none sets earlier (item ∷ items) =
    let rest = item_hits_after-none sets (earlier ++ item ∷ []) items in
    let here : one_if (is_item_hit sets 0 earlier item) ≡ 0 = ap one_if (is_item_hit-none sets earlier item) in
    omega (arith, rest, here)

-- all uses miss
pub misses_with-none : (sets : ℕ) (items : List Item) → misses_with sets items 0 ≡ uses_in items
misses_with-none sets items = let none = item_hits_after-none sets [] items in omega (arith, none)
