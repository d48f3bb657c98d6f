-- With more ways as many uses hit, or more, also where lines are dropped.
use Rattle.std.proofs.Common.{◌≡◌, ℕ, ◌+◌, ◌%◌, ◌≤◌, Bool, true, false, ◌&&◌, nat_lt, List, [], ◌∷◌, ◌++◌, length, reverse, arith, refl}
use Rattle.std.proofs.lemmas.Bool.{and_parts, lt-ltb, ltb-true}
use Rattle.lists.specs.Sums.{one_if}
use Rattle.private_lru.specs.Private.{alive, always_fewer, is_used, private_hit, since}
use Rattle.private_lru.specs.declared.item.Item.{Item}
use Rattle.private_lru.specs.declared.item.Item.TheVariants.{Use, Drop}
use Rattle.way_curve.specs.ItemCurves.{is_item_hit, item_hits_after, items_of_set}

-- fewer than some ways are fewer than more
nat_lt-le : (n ways more : ℕ) → ways ≤ more → nat_lt n ways ≡ true → nat_lt n more ≡ true
nat_lt-le n ways more le h = let lt = ltb-true n ways h in lt-ltb n more (omega (arith, lt))

-- both of two tests hold
and-both : (a b : Bool) → a ≡ true → b ≡ true → (a && b) ≡ true
and-both a b h k = rw (h, k) refl

-- and so at each point
always_fewer-le : (ways more : ℕ) (items : List Item) → ways ≤ more → always_fewer ways items ≡ true → always_fewer more items ≡ true
always_fewer-le ways more [] le h = nat_lt-le 0 ways more le h
always_fewer-le ways more (item ∷ items) le h =
    let n : ℕ = length (alive (item ∷ items)) in
    let parts = and_parts (nat_lt n ways) (always_fewer ways items) h in
    and-both (nat_lt n more) (always_fewer more items) (nat_lt-le n ways more le parts.0) (always_fewer-le ways more items le parts.1)

-- what hits with some ways hits with more
private_hit-le : (ways more : ℕ) (earlier : List Item) (x : ℕ) → ways ≤ more → private_hit ways earlier x ≡ true → private_hit more earlier x ≡ true
private_hit-le ways more earlier x le h =
    let back : List Item = reverse earlier in
    let parts = and_parts (is_used x back) (always_fewer ways (since x back)) h in
    and-both (is_used x back) (always_fewer more (since x back)) parts.0 (always_fewer-le ways more (since x back) le parts.1)

-- one is no more than the other if it holds where the other does
one_if-le_one : (a b : Bool) → (a ≡ true → b ≡ true) → one_if a ≤ one_if b
one_if-le_one true b h = let is : b ≡ true = h refl in rw is (omega arith)
one_if-le_one false b h = omega arith

-- the same of an item
is_item_hit-le : (sets ways more : ℕ) (earlier : List Item) (item : Item) → ways ≤ more → one_if (is_item_hit sets ways earlier item) ≤ one_if (is_item_hit sets more earlier item)
is_item_hit-le sets ways more earlier (Use x) le =
    let own : List Item = items_of_set sets (x % sets) earlier in
    one_if-le_one (private_hit ways own x) (private_hit more own x) (private_hit-le ways more own x le)
is_item_hit-le sets ways more earlier (Drop x) le = omega arith

-- greater parts
add-le : (a b c d : ℕ) → a ≤ b → c ≤ d → a + c ≤ b + d
add-le a b c d h k = omega arith

-- more ways, more hits
pub item_hits_after-le : (sets ways more : ℕ) (earlier items : List Item) → ways ≤ more → item_hits_after sets ways earlier items ≤ item_hits_after sets more earlier items
item_hits_after-le sets ways more earlier [] le = omega arith
item_hits_after-le sets ways more earlier (item ∷ items) le =
    add-le _ _ _ _ (is_item_hit-le sets ways more earlier item le) (item_hits_after-le sets ways more (earlier ++ item ∷ []) items le)
