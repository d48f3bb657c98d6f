-- The ways of a part of a mask.
use Rattle.std.proofs.Common.{◌≡◌, ℕ, ◌+◌, ◌*◌, ◌/◌, ◌%◌, ◌^◌, ◌<◌, ◌≤◌, Bool, true, false, eqb, ltb, cond, List, [], ◌∷◌, filter, inl, inr, refl, sym, ap, ◌∙◌, arith}
use Rattle.std.specs.Int.{bit_at}
use Rattle.std.specs.List.{range_with_len}
use Rattle.std.proofs.lemmas.Bool.{cases_lt, lt-ltb, le-ltb}
use Rattle.std.proofs.lemmas.Nat.{pow_pos}
use Rattle.std.proofs.lemmas.Nat.Bits.{bit_at_above, bit_at_cat_low}
use Rattle.cbm.specs.Masks.{has_way, ways_of}

-- a mask has no way from the number of its bits on
pub has_way-above : (mask bits way : ℕ) → mask < 2 ^ bits → bits ≤ way → has_way mask way ≡ false
has_way-above mask bits way small le = ap (λ (n : ℕ). eqb n 1) (bit_at_above mask bits way small le)

-- the part of a mask below a way has the ways below it
has_way-part : (mask way other : ℕ) → (has_way (mask % 2 ^ way) other ≡ cond (ltb other way) (has_way mask other) false)
has_way-part mask way other = elim (cases_lt other way) [
  | inl lt ↦
      let parts : mask / 2 ^ way * 2 ^ way + mask % 2 ^ way ≡ mask = omega arith in
      rw (lt-ltb other way lt) (ap (λ (n : ℕ). eqb n 1) (sym (ap (λ (n : ℕ). bit_at n other) (sym parts) ∙ bit_at_cat_low (mask / 2 ^ way) way (mask % 2 ^ way) other lt)))
  | inr ge ↦
      let small : mask % 2 ^ way < 2 ^ way = omega (arith, pow_pos way) in
      rw (le-ltb other way ge) (has_way-above (mask % 2 ^ way) way other small ge)
]

-- a filter by two tests is one filter after the other
filter-both : (part whole below : ℕ → Bool) → ((k : ℕ) → part k ≡ cond (below k) (whole k) false) → (xs : List ℕ) → filter part xs ≡ filter below (filter whole xs)
filter-both part whole below is [] = refl
filter-both part whole below is (x ∷ xs) = rw (is x) (each (below x) refl (whole x) (filter-both part whole below is xs))
  where
    each : (b : Bool) → below x ≡ b → (w : Bool) → filter part xs ≡ filter below (filter whole xs) → cond (cond b w false) (x ∷ filter part xs) (filter part xs) ≡ filter below (cond w (x ∷ filter whole xs) (filter whole xs))
    each true e true rest = rw e (ap (λ (l : List ℕ). x ∷ l) rest)
    each true e false rest = rest
    each false e true rest = rw e rest
    each false e false rest = rest

-- the part of a mask below a way has just the ways of the mask that are below it
pub ways_of-part : (mask way : ℕ) → ways_of (mask % 2 ^ way) ≡ filter (λ other. ltb other way) (ways_of mask)
unfolding ways_of
ways_of-part mask way = filter-both (has_way (mask % 2 ^ way)) (has_way mask) (λ other. ltb other way) (has_way-part mask way) (range_with_len 0 64)
