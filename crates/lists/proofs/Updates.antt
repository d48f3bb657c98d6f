-- A list with another element at a place.
use Rattle.std.proofs.Common.{◌≡◌, ◌≢◌, ℕ, zero, suc, ◌<◌, Bool, true, false, cond, List, [], ◌∷◌, length, filter, get_or, set, Some, refl, ap, arith}
use Rattle.std.specs.List.{All, slice_get}
use Rattle.std.proofs.lemmas.List.Elements.{All-tail}

module _ {X : Type 0} where
  -- what stands there
  pub slice_get-set_same : (xs : List X) (i : ℕ) (y : X) → i < length xs → slice_get (set xs i y) i ≡ Some y
  slice_get-set_same [] i y within = absurd (omega arith)
  slice_get-set_same (x ∷ xs) zero y within = refl
  slice_get-set_same (x ∷ xs) (suc i) y within = slice_get-set_same xs i y (omega arith)

  -- and what stands elsewhere
  pub slice_get-set_other : (xs : List X) (i j : ℕ) (y : X) → j ≢ i → slice_get (set xs i y) j ≡ slice_get xs j
  slice_get-set_other [] i j y other = refl
  slice_get-set_other (x ∷ xs) zero zero y other = absurd (other refl)
  slice_get-set_other (x ∷ xs) zero (suc j) y other = refl
  slice_get-set_other (x ∷ xs) (suc i) zero y other = refl
  slice_get-set_other (x ∷ xs) (suc i) (suc j) y other = slice_get-set_other xs i j y (λ e. other (ap suc e))

  -- a test that none passes keeps none
  filter-empty : (p : X → Bool) (xs : List X) → All (λ x. p x ≡ false) xs → filter p xs ≡ []
  filter-empty p [] none = refl
  filter-empty p (x ∷ xs) none = rw (none 0 x (omega arith)) (filter-empty p xs (All-tail (λ x. p x ≡ false) x xs none))

  -- where none passed, the new one is the only one that does
  pub length-filter_set : (p : X → Bool) (xs : List X) (i : ℕ) (y : X) → All (λ x. p x ≡ false) xs → i < length xs → p y ≡ true → length (filter p (set xs i y)) ≡ 1
  length-filter_set p [] i y none within is = absurd (omega arith)
  length-filter_set p (x ∷ xs) zero y none within is = rw is (ap (λ (r : List X). suc (length r)) (filter-empty p xs (All-tail (λ x. p x ≡ false) x xs none)))
  length-filter_set p (x ∷ xs) (suc i) y none within is = rw (none 0 x (omega arith)) (length-filter_set p xs i y (All-tail (λ x. p x ≡ false) x xs none) (omega arith) is)

  -- one that does not pass in place of another that did not changes nothing
  pub filter-set : (p : X → Bool) (xs : List X) (i : ℕ) (y d : X) → i < length xs → p (get_or xs i d) ≡ false → p y ≡ false → filter p (set xs i y) ≡ filter p xs
  filter-set p [] i y d within was is = absurd (omega arith)
  filter-set p (x ∷ xs) zero y d within was is = rw (is, was) refl
  filter-set p (x ∷ xs) (suc i) y d within was is = ap (λ (r : List X). cond (p x) (x ∷ r) r) (filter-set p xs i y d (omega arith) was is)
