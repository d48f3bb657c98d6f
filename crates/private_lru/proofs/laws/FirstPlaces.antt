-- The first element that passes a test, or the end of a list.
use Rattle.std.proofs.Common.{◌≡◌, ℕ, zero, suc, ◌+◌, ◌<◌, ◌≤◌, Bool, true, false, cond, not, nat_lt, List, [], ◌∷◌, length, drop, None, Some, unwrap_or, inl, inr, refl, sym, ap, ◌∙◌, arith}
use Rattle.std.specs.List.{position, position_or_len, slice_get}
use Rattle.std.proofs.lemmas.Bool.{cases_Bool, ltb-false}

module _ {X : Type 0} (p : X → Bool) where
  -- it is within the list, or the end
  pub position_or_len-le : (xs : List X) → position_or_len p xs ≤ length xs
  position_or_len-le [] = omega arith
  position_or_len-le (x ∷ xs) = at (p x) (position_or_len-le xs)
    where
      at : (b : Bool) → position_or_len p xs ≤ length xs → cond (not b) (1 + position_or_len p xs) 0 ≤ suc (length xs)
      at true le = omega arith
      at false le = omega arith

  -- as a search finds it
  pub unwrap_or-position : (xs : List X) → unwrap_or (position p xs) (length xs) ≡ position_or_len p xs
  unwrap_or-position xs = elim (cases_Bool (nat_lt (position_or_len p xs) (length xs))) [
    | inl less ↦ rw less refl
    | inr more ↦
        let le : position_or_len p xs ≤ length xs = position_or_len-le xs in
        let high : length xs ≤ position_or_len p xs = ltb-false (position_or_len p xs) (length xs) more in
        rw more (omega arith)
  ]

  -- none before it passes
  pub position_or_len-before : (xs : List X) (k : ℕ) (x : X) → slice_get xs k ≡ Some x → k < position_or_len p xs → p x ≡ false
  position_or_len-before [] k x there less = absurd (let none : None ≡ Some x = there in cc)
  position_or_len-before (y ∷ ys) zero x there less = let same : y ≡ x = cc in elim (cases_Bool (p y)) [
    | inl is ↦ let none : 0 < 0 = rw is at less in absurd (omega arith)
    | inr is_not ↦ sym (ap p same) ∙ is_not
  ]
  position_or_len-before (y ∷ ys) (suc k) x there less = elim (cases_Bool (p y)) [
    | inl is ↦ let none : suc k < 0 = rw is at less in absurd (omega arith)
    | inr is_not ↦ let more : suc k < 1 + position_or_len p ys = rw is_not at less in position_or_len-before ys k x there (omega arith)
  ]

  -- what stands there passes
  pub position_or_len-at : (xs : List X) (x : X) → slice_get xs (position_or_len p xs) ≡ Some x → p x ≡ true
  position_or_len-at [] x there = absurd (let none : None ≡ Some x = there in cc)
  position_or_len-at (y ∷ ys) x there = elim (cases_Bool (p y)) [
    | inl is ↦ let first : slice_get (y ∷ ys) 0 ≡ Some x = rw is at there in let same : y ≡ x = cc in sym (ap p same) ∙ is
    | inr is_not ↦
        let one : 1 + position_or_len p ys ≡ suc (position_or_len p ys) = omega arith in
        let more : slice_get (y ∷ ys) (1 + position_or_len p ys) ≡ Some x = rw is_not at there in
        position_or_len-at ys x (sym (ap (slice_get (y ∷ ys)) one) ∙ more)
  ]

-- what stands after the first ones
pub slice_get-drop : {X : Type 0} (a k : ℕ) (xs : List X) → slice_get (drop a xs) k ≡ slice_get xs (a + k)
slice_get-drop zero k xs = let same : zero + k ≡ k = omega arith in ap (slice_get xs) (sym same)
slice_get-drop (suc a) k [] = refl
slice_get-drop (suc a) k (x ∷ xs) = let same : suc a + k ≡ suc (a + k) = omega arith in slice_get-drop a k xs ∙ ap (slice_get (x ∷ xs)) (sym same)
