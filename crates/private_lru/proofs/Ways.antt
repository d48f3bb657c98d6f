-- The ways of a mask, counted from below.
use Rattle.std.proofs.Common.{◌≡◌, ℕ, zero, suc, ◌+◌, ◌-◌, ◌^◌, ◌<◌, ◌≤◌, Bool, true, false, cond, ◌∷◌, length, filter, inl, inr, sym, ap, ◌∙◌, arith}
use Rattle.std.specs.List.{range_with_len}
use Rattle.std.proofs.lemmas.Bool.{cases_Bool, cases_lt}
use Rattle.std.proofs.lemmas.Nat.Bits.{bit_at_above}
use Rattle.cache_core.specs.History.{ways_below}
use Rattle.cbm.proofs.laws.Ways.{has_way-zero}
use Rattle.cbm.specs.Masks.{has_way, ways_of}
use Rattle.lists.specs.Sums.{one_if}

-- the ways below one place are those below another and those between
ways_below-add : (mask a n : ℕ) → ways_below mask (a + n) ≡ ways_below mask a + length (filter (has_way mask) (range_with_len a n))
ways_below-add mask a zero = let same : a + 0 ≡ a = omega arith in ap (ways_below mask) same ∙ omega arith
ways_below-add mask a (suc n) =
    let same : a + suc n ≡ (a + 1) + n = omega arith in
    let next : a + 1 ≡ suc a = omega arith in
    let rest = ways_below-add mask (a + 1) n in
    let first : ways_below mask (a + 1) ≡ ways_below mask a + one_if (has_way mask a) = ap (ways_below mask) next in
    ap (ways_below mask) same ∙ rest ∙ at (has_way mask a) first
  where
    at : (b : Bool) → ways_below mask (a + 1) ≡ ways_below mask a + one_if b
        → ways_below mask (a + 1) + length (filter (has_way mask) (range_with_len (a + 1) n)) ≡ ways_below mask a + length (cond b (a ∷ filter (has_way mask) (range_with_len (a + 1) n)) (filter (has_way mask) (range_with_len (a + 1) n)))
    at true e = omega arith
    at false e = omega arith

-- a mask has no ways past its bits
ways_below-above : (mask n more : ℕ) → mask < 2 ^ n → ways_below mask (n + more) ≡ ways_below mask n
ways_below-above mask n zero small = let same : n + 0 ≡ n = omega arith in ap (ways_below mask) same
ways_below-above mask n (suc more) small =
    let same : n + suc more ≡ suc (n + more) = omega arith in
    let none : has_way mask (n + more) ≡ false = has_way-zero mask (n + more) (bit_at_above mask n (n + more) small (omega arith)) in
    ap (ways_below mask) same ∙ (rw none (let rest = ways_below-above mask n more small in omega arith))

-- no more ways than all are below a place
pub ways_below-le : (mask n : ℕ) → n ≤ 64 → ways_below mask n ≤ length (ways_of mask)
unfolding ways_of
ways_below-le mask n narrow =
    let all : n + (64 - n) ≡ 64 = omega arith in
    let whole : ways_below mask 64 ≡ length (filter (has_way mask) (range_with_len 0 64)) = ways_below-add mask 0 64 ∙ omega arith in
    let rest = ways_below-add mask n (64 - n) in
    let same : ways_below mask (n + (64 - n)) ≡ ways_below mask 64 = ap (ways_below mask) all in
    omega arith

-- all ways of a mask are below one that is past its bits
pub ways_below-all : (mask n : ℕ) → mask < 2 ^ n → n ≤ 64 → ways_below mask n ≡ length (ways_of mask)
unfolding ways_of
ways_below-all mask n small narrow =
    let all : n + (64 - n) ≡ 64 = omega arith in
    let whole : ways_below mask 64 ≡ length (filter (has_way mask) (range_with_len 0 64)) = ways_below-add mask 0 64 ∙ omega arith in
    sym (ap (ways_below mask) (sym all) ∙ ways_below-above mask n (64 - n) small) ∙ whole

-- the way of a mask below which so many of its ways are
pub ways_below-nth : (mask k n : ℕ) → k < ways_below mask n → (way : ℕ) × (way < n) × (has_way mask way ≡ true) × (ways_below mask way ≡ k)
ways_below-nth mask k zero less = absurd (omega arith)
ways_below-nth mask k (suc n) less = elim (cases_lt k (ways_below mask n)) [
  | inl lt ↦ let rest = ways_below-nth mask k n lt in (rest.0, omega (arith, rest.1), rest.2, rest.3)
  | inr le ↦ elim (cases_Bool (has_way mask n)) [
    | inl has ↦ let more : k < ways_below mask n + 1 = rw has at less in (n, omega arith, has, omega arith)
    | inr none ↦ let same : k < ways_below mask n + 0 = rw none at less in absurd (omega arith)
  ]
]
