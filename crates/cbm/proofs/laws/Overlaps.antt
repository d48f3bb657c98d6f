-- Overlaps of masks: way by way, in either order, and with a union.
use Rattle.std.proofs.Common.{◌≡◌, ℕ, ◌<◌, Bool, true, false, ◌||◌, List, [], ◌∷◌, refl, sym, ap, ◌∙◌, arith}
use Rattle.std.specs.List.{list_any}
use Rattle.std.proofs.lemmas.Bool.{false≢true}
use Rattle.lists.proofs.Filters.{list_any-filter, list_any-filter_none, list_any-filter_true}
use Rattle.cbm.specs.Masks.{IsUnion, has_way, overlaps, ways_of}
use Rattle.lists.proofs.Tests.{list_any-same}

-- ---- way by way

-- masks that share a way overlap
pub overlaps-way : (a b way : ℕ) → way < 64 → has_way a way ≡ true → has_way b way ≡ true → overlaps a b ≡ true
unfolding overlaps ways_of
overlaps-way a b way small in_a in_b = list_any-filter (has_way a) (has_way b) 0 64 way (omega arith) (omega arith) in_a in_b

-- masks that share no way do not
pub overlaps-apart : (a b : ℕ) → ((way : ℕ) → way < 64 → has_way a way ≡ true → has_way b way ≡ false) → overlaps a b ≡ false
unfolding overlaps ways_of
overlaps-apart a b apart = list_any-filter_none (has_way a) (has_way b) 0 64 (λ k low high in_a. apart k (omega arith) in_a)

-- where masks do not overlap, a way of one is not in the other
pub has_way-apart : (a b way : ℕ) → overlaps a b ≡ false → way < 64 → has_way a way ≡ true → has_way b way ≡ false
has_way-apart a b way none small in_a = tell (has_way b way) refl
  where
    tell : (there : Bool) → there ≡ has_way b way → there ≡ false
    tell false e = refl
    tell true e = absurd (false≢true (sym none ∙ overlaps-way a b way small in_a (sym e)))

-- masks that overlap share a way
pub overlaps-true : (a b : ℕ) → overlaps a b ≡ true → (way : ℕ) × (way < 64) × (has_way a way ≡ true) × (has_way b way ≡ true)
unfolding overlaps ways_of
overlaps-true a b h = let s = list_any-filter_true (has_way a) (has_way b) 0 64 h in (s.0, omega (arith, s.1), s.2, s.3)

-- ---- in either order

-- two tests are the same where each passes if the other does
eq-iff_true : (x y : Bool) → (x ≡ true → y ≡ true) → (y ≡ true → x ≡ true) → x ≡ y
eq-iff_true true y f g = sym (f refl)
eq-iff_true false true f g = g refl
eq-iff_true false false f g = refl

-- masks overlap in either order
pub overlaps-comm : (a b : ℕ) → overlaps a b ≡ overlaps b a
overlaps-comm a b = eq-iff_true (overlaps a b) (overlaps b a) (turned a b) (turned b a)
  where
    turned : (m n : ℕ) → overlaps m n ≡ true → overlaps n m ≡ true
    turned m n h = let s = overlaps-true m n h in overlaps-way n m s.0 s.1 s.3 s.2

-- ---- with a union

-- one passes either of two tests where one passes the first or one the second
list_any-or : (p q : ℕ → Bool) (xs : List ℕ) → list_any (λ k. p k || q k) xs ≡ (list_any p xs || list_any q xs)
list_any-or p q [] = refl
list_any-or p q (x ∷ xs) = ap (λ (b : Bool). p x || q x || b) (list_any-or p q xs) ∙ regroup (p x) (q x) (list_any p xs) (list_any q xs)
  where
    regroup : (a b c d : Bool) → (a || b || (c || d)) ≡ (a || c || (b || d))
    regroup true b c d = refl
    regroup false true true d = refl
    regroup false true false d = refl
    regroup false false true d = refl
    regroup false false false d = refl

-- nothing passes a test that always fails
list_any-false : (xs : List ℕ) → list_any (λ k. false) xs ≡ false
list_any-false [] = refl
list_any-false (x ∷ xs) = list_any-false xs

-- some way is in some mask, seen from the ways and from the masks
list_any-swap : (masks ways : List ℕ) → list_any (λ w. list_any (λ m. has_way m w) masks) ways ≡ list_any (λ m. list_any (has_way m) ways) masks
list_any-swap [] ways = list_any-false ways
list_any-swap (m ∷ masks) ways =
    list_any-or (has_way m) (λ w. list_any (λ n. has_way n w) masks) ways ∙ ap (λ (b : Bool). list_any (has_way m) ways || b) (list_any-swap masks ways)

-- a mask overlaps a union of masks where it overlaps one of them
pub overlaps-union : (mask union : ℕ) (masks : List ℕ) → IsUnion union masks → overlaps mask union ≡ list_any (overlaps mask) masks
unfolding overlaps
overlaps-union mask union masks is_union =
    list_any-same (has_way union) (λ w. list_any (λ m. has_way m w) masks) (ways_of mask) is_union ∙ list_any-swap masks (ways_of mask)
