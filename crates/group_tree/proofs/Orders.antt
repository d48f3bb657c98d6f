-- The order of keys and of entries.
use Rattle.std.proofs.Common.{◌≡◌, ◌≢◌, ◌==◌, ℕ, ◌<◌, ◌≤◌, refl, true, false, length, get_or, List, inl, inr, ap₂, subst, sym, arith}
use Rattle.std.specs.List.Sorted.{IsPartitionedBy}
use Rattle.std.proofs.lemmas.Bool.{and_from, and_parts, cases_lt, eq-eqb, eqb-true}
use Rattle.std.proofs.lemmas.Bool.Decides.{nat_tests}
use Rattle.group_tree.specs.Indices.{AreInOrder, in_order, lowered, precedes}
use Rattle.group_tree.specs.Keys.{is_below, is_key}
use Rattle.group_tree.specs.declared.index.Entry.{Entry}
use Rattle.group_tree.specs.declared.key.Key.{Key}

-- ---- keys

-- a key of two numbers
abbrev pub key_with : ℕ → ℕ → Key
key_with high low = record { high = high; low = low }

-- keys that the test finds the same are the same
pub is_key-same : (a b : Key) → is_key a b ≡ true → a ≡ b
is_key-same a b is = let parts = and_parts (a.high == b.high) (a.low == b.low) is in
    ap₂ key_with (eqb-true a.high b.high parts.0) (eqb-true a.low b.low parts.1)

-- the test finds a key the same as itself
is_key-refl : (a : Key) → is_key a a ≡ true
is_key-refl a = and_from _ _ (eq-eqb a.high a.high refl) (eq-eqb a.low a.low refl)

-- and as an equal one
pub is_key-from : (a b : Key) → a ≡ b → is_key a b ≡ true
is_key-from a b same = subst (λ (k : Key). is_key a k ≡ true) same (is_key-refl a)

-- the other way round
pub is_key-sym : (a b : Key) → is_key a b ≡ true → is_key b a ≡ true
is_key-sym a b is = is_key-from b a (sym (is_key-same a b is))

-- a key below another is another
pub is_below-other : (a b : Key) → is_below a b ≡ true → is_key b a ≡ true → ⊥
is_below-other a b below is = grind (arith, nat_tests)

-- ---- entries

-- an entry may stand before itself
in_order-refl : (a : Entry) → in_order a a ≡ true
in_order-refl a = grind (arith, nat_tests)

-- one that precedes another may stand before it
pub in_order-precedes : (a b : Entry) → precedes a b ≡ true → in_order a b ≡ true
in_order-precedes a b before = grind (arith, nat_tests)

-- what stands before an entry below a key is below it
is_below-before : (a b : Entry) (key : Key) → in_order a b ≡ true → is_below b.key key ≡ true → is_below a.key key ≡ true
is_below-before a b key order below = grind (arith, nat_tests)

-- what stands before an entry that precedes a third precedes that one
precedes-before : (a b c : Entry) → in_order a b ≡ true → precedes b c ≡ true → precedes a c ≡ true
precedes-before a b c order before = grind (arith, nat_tests)

-- after a key that is neither below nor the same, that key does not come
pub is_key-after : (a b : Entry) (key : Key) → in_order a b ≡ true → is_below a.key key ≡ false → is_key a.key key ≡ false → is_key key b.key ≡ true → ⊥
is_key-after a b key order above other is = grind (arith, nat_tests)

-- entries with the same key stand in the order of their places
pub place-le : (a b : Entry) (key : Key) → in_order a b ≡ true → is_key a.key key ≡ true → is_key key b.key ≡ true → a.place ≤ b.place
place-le a b key order first second = grind (arith, nat_tests)

-- a place taken out between them leaves their order
pub in_order-lowered : (place : ℕ) (a b : Entry) → a.place ≢ place → b.place ≢ place → in_order a b ≡ true → in_order (lowered place a) (lowered place b) ≡ true
in_order-lowered place a b one other order = grind (arith, nat_tests)

-- ---- lists of entries

module _ (entries : List Entry) (rising : AreInOrder entries) where
  -- the order of two places that may be the same
  pub in_order-le : (i j : ℕ) (d : Entry) → i ≤ j → j < length entries → in_order (get_or entries i d) (get_or entries j d) ≡ true
  in_order-le i j d le within = elim (cases_lt i j) [
    | inl lower ↦ rising i j d lower within
    | inr past ↦ (let same : j ≡ i = omega arith in rw same (in_order-refl (get_or entries i d)))
  ]

  -- those below a key come first
  pub IsPartitionedBy-is_below : (key : Key) → IsPartitionedBy (λ e. is_below e.key key) entries
  IsPartitionedBy-is_below key i j d le within below = is_below-before (get_or entries i d) (get_or entries j d) key (in_order-le i j d le within) below

  -- those that precede an entry come first
  pub IsPartitionedBy-precedes : (new : Entry) → IsPartitionedBy (λ e. precedes e new) entries
  IsPartitionedBy-precedes new i j d le within before = precedes-before (get_or entries i d) (get_or entries j d) new (in_order-le i j d le within) before
