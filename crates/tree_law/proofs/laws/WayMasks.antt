-- The mask of the ways of a mask is that mask.
use Rattle.std.proofs.Common.{◌≡◌, ℕ, zero, suc, ◌+◌, ◌*◌, ◌/◌, ◌%◌, ◌^◌, ◌<◌, Bool, true, false, cond, eqb, List, [], ◌∷◌, ◌++◌, filter, refl, sym, ap, ◌∙◌, arith, zero-add}
use Rattle.std.specs.List.{range_with_len}
use Rattle.std.proofs.lemmas.Nat.{mod-pow-add}
use Rattle.cbm.specs.Masks.{has_way, ways_of}
use Rattle.tree_law.specs.Space.{mask_of}

-- the mask of two lists of ways
mask_of-append : (xs ys : List ℕ) → mask_of (xs ++ ys) ≡ mask_of xs + mask_of ys
mask_of-append [] ys = sym (zero-add (mask_of ys))
mask_of-append (x ∷ xs) ys = omega (arith, mask_of-append xs ys)

-- one number more in a range
filter-range_suc : (p : ℕ → Bool) (a n : ℕ) → filter p (range_with_len a (suc n)) ≡ filter p (range_with_len a n) ++ cond (p (a + n)) ((a + n) ∷ []) []
filter-range_suc p a zero = let e : a + 0 ≡ a = omega arith in rw e refl
filter-range_suc p a (suc n) =
    let next : (a + 1) + n ≡ a + suc n = omega arith in
    ap (λ (xs : List ℕ). cond (p a) (a ∷ xs) xs) (rw next at (filter-range_suc p (a + 1) n)) ∙ at (p a)
  where
    tail : List ℕ
    tail = cond (p (a + suc n)) ((a + suc n) ∷ []) []

    at : (b : Bool) → cond b (a ∷ (filter p (range_with_len (a + 1) n) ++ tail)) (filter p (range_with_len (a + 1) n) ++ tail) ≡ cond b (a ∷ filter p (range_with_len (a + 1) n)) (filter p (range_with_len (a + 1) n)) ++ tail
    at true = refl
    at false = refl

-- the ways below a number make the part of the mask below it
mask_of-below : (mask n : ℕ) → mask_of (filter (has_way mask) (range_with_len 0 n)) ≡ mask % 2 ^ n
mask_of-below mask zero = omega arith
mask_of-below mask (suc n) =
    let more = filter-range_suc (has_way mask) 0 n in
    let zeroth : 0 + n ≡ n = zero-add n in
    let grown : mask_of (filter (has_way mask) (range_with_len 0 (suc n))) ≡ mask % 2 ^ n + mask_of (cond (has_way mask n) (n ∷ []) [])
    = ap mask_of (rw zeroth at more) ∙ mask_of-append (filter (has_way mask) (range_with_len 0 n)) (cond (has_way mask n) (n ∷ []) []) ∙ ap (λ (k : ℕ). k + mask_of (cond (has_way mask n) (n ∷ []) [])) (mask_of-below mask n) in
    let parts = mod-pow-add mask 1 n in
    let turned : 1 + n ≡ suc n = omega arith in
    grown ∙ bit (mask / 2 ^ n % 2) (mask % 2 ^ n) (omega arith) ∙ sym (rw turned at parts)
  where
    bit : (b low : ℕ) → b < 2 → low + mask_of (cond (eqb b 1) (n ∷ []) []) ≡ b * 2 ^ n + low
    bit zero low lt = omega arith
    bit (suc zero) low lt = omega arith
    bit (suc (suc b)) low lt = absurd (omega arith)

-- the ways of a mask make it
pub mask_of-ways_of : (mask : ℕ) → mask < 2 ^ 64 → mask_of (ways_of mask) ≡ mask
unfolding ways_of
mask_of-ways_of mask small = mask_of-below mask 64 ∙ omega arith
