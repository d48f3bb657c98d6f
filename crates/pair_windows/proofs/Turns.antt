-- A list whose elements are taken one after another.
use Rattle.std.proofs.Common.{◌≡◌, ◌≢◌, ℕ, ◌+◌, ◌<◌, ◌≤◌, List, [], ◌∷◌, ◌++◌, length, get_or, set, inl, inr, sym, subst, arith}
use Rattle.std.proofs.lemmas.Bool.{cases_lt}
use Rattle.std.proofs.lemmas.List.{get_or-set_other, get_or-set_same, get_or_append_left, get_or_push, length-append, length-set}
use Rattle.pair_windows.specs.DomainWalks.{Each}

-- So many were taken, and the others are as they were.
pub record Turn {X : Type 0} (P Q : ℕ → X → Type 0) (n : ℕ) (xs : List X) : Type 0 where
  pub done : (i : ℕ) (d : X) → i < n → i < length xs → Q i (get_or xs i d)
  pub left : (i : ℕ) (d : X) → n ≤ i → i < length xs → P i (get_or xs i d)

module _ {X : Type 0} (P Q : ℕ → X → Type 0) where
  -- none was
  pub Turn-none : (xs : List X) → Each P xs → Turn P Q 0 xs
  Turn-none xs all = record { done = λ i d few within. absurd (omega (arith, few)); left = λ i d more within. all i d within }

  -- one more
  pub Turn-more : (n : ℕ) (xs : List X) (d y : X) → Turn P Q n xs → n < length xs → (P n (get_or xs n d) → Q n y) → Turn P Q (n + 1) (set xs n y)
  Turn-more n xs d y turn lt step = record {
    done = λ i e few within. elim (cases_lt i n) [
      | inl less ↦
          let other : i ≢ n = λ same. omega (arith, less, same) in
          subst (Q i) (sym (get_or-set_other xs n i y e other)) (turn.done i e less (omega (arith, within, length-set xs n y)))
      | inr ge ↦
          let same : n ≡ i = omega (arith, few, ge) in
          subst (λ k. Q k (get_or (set xs n y) k e)) same (subst (Q n) (sym (get_or-set_same xs n y e lt)) (step (turn.left n d (omega arith) lt)))
    ];
    left = λ i e more within.
        let other : i ≢ n = λ same. omega (arith, more, same) in
        subst (P i) (sym (get_or-set_other xs n i y e other)) (turn.left i e (omega (arith, more)) (omega (arith, within, length-set xs n y)));
  }

  -- all were
  pub Each-turned : (n : ℕ) (xs : List X) → Turn P Q n xs → length xs ≤ n → Each Q xs
  Each-turned n xs turn all = λ i d within. turn.done i d (omega (arith, within, all)) within

-- one element more
pub Each-push : {X : Type 0} (P : ℕ → X → Type 0) (xs : List X) (y : X) → Each P xs → P (length xs) y → Each P (xs ++ y ∷ [])
Each-push P xs y all here = λ i d lt. elim (cases_lt i (length xs)) [
  | inl less ↦ subst (P i) (sym (get_or_append_left xs (y ∷ []) d i less)) (all i d less)
  | inr ge ↦
      let same : length xs ≡ i = omega (arith, lt, ge, length-append xs (y ∷ [])) in
      subst (P i) (sym (get_or_push xs y d i same)) (subst (λ n. P n y) same here)
]
