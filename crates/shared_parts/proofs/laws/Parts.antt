-- Parts after an event, and parts of two lists.
use Rattle.std.proofs.Common.{◌≡◌, inl, inr, ℕ, ◌==◌, true, false, Bool, List, [], ◌∷◌, ◌++◌, refl, sym, ◌∙◌, ap, subst}
use Rattle.std.specs.Prelude.{if◌then◌else◌, ◌⊎◌}
use Rattle.std.proofs.lemmas.Bool.{cases_Bool, cond-true, cond-false, eqb-true, eq-eqb, true≢false}
use Rattle.shared_parts.specs.Parts.{Fits, first_of, has, parts_after, rest_of, state_after}

module _ {P : Type 0} where
  -- the part of a number is there where it is the head's, and else where it is in the tail
  pub has-first : (k : ℕ) (x : ℕ × P) (xs : List (ℕ × P)) → (x.0 == k) ≡ true → has k (x ∷ xs) ≡ true
  has-first k x xs h = cond-true (x.0 == k) true (has k xs) h

  pub has-later : (k : ℕ) (x : ℕ × P) (xs : List (ℕ × P)) → (x.0 == k) ≡ false → has k (x ∷ xs) ≡ has k xs
  has-later k x xs h = cond-false (x.0 == k) true (has k xs) h

  -- the head's part is there
  pub has-head : (x : ℕ × P) (xs : List (ℕ × P)) → has x.0 (x ∷ xs) ≡ true
  has-head x xs = cond-true (x.0 == x.0) true (has x.0 xs) (eq-eqb x.0 x.0 refl)

  -- and so is what is in the tail
  pub has-tail : (k : ℕ) (x : ℕ × P) (xs : List (ℕ × P)) → has k xs ≡ true → has k (x ∷ xs) ≡ true
  has-tail k x xs h = elim (cases_Bool (x.0 == k)) [
    | inl e ↦ cond-true (x.0 == k) true (has k xs) e
    | inr e ↦ cond-false (x.0 == k) true (has k xs) e ∙ h
  ]

  -- what is there is the head's or in the tail
  pub has-cases : (k : ℕ) (x : ℕ × P) (xs : List (ℕ × P)) → has k (x ∷ xs) ≡ true → (x.0 ≡ k) ⊎ (has k xs ≡ true)
  has-cases k x xs h = elim (cases_Bool (x.0 == k)) [
    | inl e ↦ inl (eqb-true x.0 k e)
    | inr e ↦ inr (sym (cond-false (x.0 == k) true (has k xs) e) ∙ h)
  ]

  -- what is in one of two lists is in both together, and the other way round
  pub has-append_cases : (k : ℕ) (xs ys : List (ℕ × P)) → has k (xs ++ ys) ≡ true → (has k xs ≡ true) ⊎ (has k ys ≡ true)
  has-append_cases k [] ys h = inr h
  has-append_cases k (x ∷ xs) ys h = elim (has-cases k x (xs ++ ys) h) [
    | inl e ↦ inl (subst (λ n. has n (x ∷ xs) ≡ true) e (has-head x xs))
    | inr t ↦ elim (has-append_cases k xs ys t) [ inl a ↦ inl (has-tail k x xs a) | inr b ↦ inr b ]
  ]

  -- both have their parts in the state
  pub Fits-append : (at : ℕ → P) (xs ys : List (ℕ × P)) → Fits at xs → Fits at ys → Fits at (xs ++ ys)
  Fits-append at [] ys f g = g
  Fits-append at (x ∷ xs) ys f g = (f.0, Fits-append at xs ys f.1 g)

  -- the first and the others are among them
  pub has-first_of : (k : ℕ) (xs : List (ℕ × P)) → has k (first_of xs) ≡ true → has k xs ≡ true
  has-first_of k [] h = h
  has-first_of k (x ∷ xs) h = elim (has-cases k x [] h) [
    | inl e ↦ subst (λ n. has n (x ∷ xs) ≡ true) e (has-head x xs)
    | inr more ↦ absurd (true≢false (sym more))
  ]

  pub has-rest_of : (k : ℕ) (xs : List (ℕ × P)) → has k (rest_of xs) ≡ true → has k xs ≡ true
  has-rest_of k [] h = h
  has-rest_of k (x ∷ xs) h = has-tail k x xs h

  pub Fits-first_of : (at : ℕ → P) (xs : List (ℕ × P)) → Fits at xs → Fits at (first_of xs)
  Fits-first_of at [] f = f
  Fits-first_of at (x ∷ xs) f = (f.0, tt)

  pub Fits-rest_of : (at : ℕ → P) (xs : List (ℕ × P)) → Fits at xs → Fits at (rest_of xs)
  Fits-rest_of at [] f = f
  Fits-rest_of at (x ∷ xs) f = f.1

module _ {E P : Type 0} (after : E → ℕ → P → P) (e : E) where
  -- an event changes no number
  pub has-parts_after : (k : ℕ) (xs : List (ℕ × P)) → has k (parts_after after e xs) ≡ has k xs
  has-parts_after k [] = refl
  has-parts_after k (x ∷ xs) = ap (λ (b : Bool). if x.0 == k then true else b) (has-parts_after k xs)

  -- parts that it did not happen to are as they were
  pub Fits-others : (at : ℕ → P) (xs ys : List (ℕ × P)) → ((k : ℕ) → has k ys ≡ true → has k xs ≡ false) → Fits at ys → Fits (state_after after e xs at) ys
  Fits-others at xs [] free f = tt
  Fits-others at xs (y ∷ ys) free f = (
    cond-false (has y.0 xs) (after e y.0 (at y.0)) (at y.0) (free y.0 (has-head y ys)) ∙ f.0,
    Fits-others at xs ys (λ k h. free k (has-tail k y ys h)) f.1,
  )

  -- and those that it happened to are what it made of them
  pub Fits-parts_after : (at : ℕ → P) (xs ys : List (ℕ × P)) → ((k : ℕ) → has k ys ≡ true → has k xs ≡ true) → Fits at ys → Fits (state_after after e xs at) (parts_after after e ys)
  Fits-parts_after at xs [] all f = tt
  Fits-parts_after at xs (y ∷ ys) all f = (
    cond-true (has y.0 xs) (after e y.0 (at y.0)) (at y.0) (all y.0 (has-head y ys)) ∙ ap (after e y.0) f.0,
    Fits-parts_after at xs ys (λ k h. all k (has-tail k y ys h)) f.1,
  )

  -- a part that an event happens to is what it makes of it
  pub state_after-there : (xs : List (ℕ × P)) (at : ℕ → P) (k : ℕ) → has k xs ≡ true → state_after after e xs at k ≡ after e k (at k)
  state_after-there xs at k h = cond-true (has k xs) (after e k (at k)) (at k) h

  -- and any other is as it was
  pub state_after-else : (xs : List (ℕ × P)) (at : ℕ → P) (k : ℕ) → has k xs ≡ false → state_after after e xs at k ≡ at k
  state_after-else xs at k h = cond-false (has k xs) (after e k (at k)) (at k) h
