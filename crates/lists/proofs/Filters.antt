-- The numbers of a range that pass a test.
use Rattle.std.proofs.Common.{◌≡◌, ℕ, zero, suc, ◌+◌, ◌-◌, ◌<◌, ◌≤◌, Bool, true, false, cond, inl, inr, List, [], ◌∷◌, ◌++◌, length, filter, refl, sym, ap, ◌∙◌, arith}
use Rattle.std.specs.List.{list_any, range_with_len}
use Rattle.std.proofs.lemmas.Bool.{cases_lt}
use Rattle.std.proofs.Math.Bool.{or-true}

-- those at the beginning that fail are passed over
pub filter-fails : (p : ℕ → Bool) (a z n : ℕ) → z ≤ n → ((k : ℕ) → a ≤ k → k < a + z → p k ≡ false) → filter p (range_with_len a n) ≡ filter p (range_with_len (a + z) (n - z))
filter-fails p a zero n le h = (let one : a + 0 ≡ a = omega arith in let two : n - 0 ≡ n = omega arith in rw (one, two) refl)
filter-fails p a (suc z) zero le h = absurd (omega arith)
filter-fails p a (suc z) (suc n) le h =
    let at : (a + 1) + z ≡ a + suc z = omega arith in
    let rest : n - z ≡ suc n - suc z = omega arith in
    rw (h a (omega arith) (omega arith)) (filter-fails p (a + 1) z n (omega arith) (λ k low high. h k (omega arith) (omega arith)) ∙ (rw (at, rest) refl))

-- those at the beginning that pass are kept
pub filter-passes : (p : ℕ → Bool) (a z n : ℕ) → z ≤ n → ((k : ℕ) → a ≤ k → k < a + z → p k ≡ true) → filter p (range_with_len a n) ≡ range_with_len a z ++ filter p (range_with_len (a + z) (n - z))
filter-passes p a zero n le h = (let one : a + 0 ≡ a = omega arith in let two : n - 0 ≡ n = omega arith in rw (one, two) refl)
filter-passes p a (suc z) zero le h = absurd (omega arith)
filter-passes p a (suc z) (suc n) le h =
    let at : (a + 1) + z ≡ a + suc z = omega arith in
    let rest : n - z ≡ suc n - suc z = omega arith in
    rw (h a (omega arith) (omega arith)) (ap (λ (xs : List ℕ). a ∷ xs) (filter-passes p (a + 1) z n (omega arith) (λ k low high. h k (omega arith) (omega arith)) ∙ (rw (at, rest) refl)))

-- none passes
pub filter-none : (p : ℕ → Bool) (a n : ℕ) → ((k : ℕ) → a ≤ k → k < a + n → p k ≡ false) → filter p (range_with_len a n) ≡ []
filter-none p a zero h = refl
filter-none p a (suc n) h = rw (h a (omega arith) (omega arith)) (filter-none p (a + 1) n (λ k low high. h k (omega arith) (omega arith)))

-- the same pass two tests
pub filter-same : (p q : ℕ → Bool) (a n : ℕ) → ((k : ℕ) → a ≤ k → k < a + n → p k ≡ q k) → filter p (range_with_len a n) ≡ filter q (range_with_len a n)
filter-same p q a zero h = refl
filter-same p q a (suc n) h =
    rw (h a (omega arith) (omega arith), filter-same p q (a + 1) n (λ k low high. h k (omega arith) (omega arith))) refl

-- one that passes is among those that pass
pub list_any-filter : (p q : ℕ → Bool) (a n k : ℕ) → a ≤ k → k < a + n → p k ≡ true → q k ≡ true → list_any q (filter p (range_with_len a n)) ≡ true
list_any-filter p q a zero k low high pk qk = absurd (omega arith)
list_any-filter p q a (suc n) k low high pk qk =
    elim (cases_lt a k) [
      | inl lt ↦ more (p a) (list_any-filter p q (a + 1) n k (omega arith) (omega arith) pk qk)
      | inr le ↦ (let here : k ≡ a = omega arith in
          let pa : p a ≡ true = ap p (sym here) ∙ pk in
          let qa : q a ≡ true = ap q (sym here) ∙ qk in
          rw (pa, qa) refl)
    ]
  where
    more : (b : Bool) → list_any q (filter p (range_with_len (a + 1) n)) ≡ true → list_any q (cond b (a ∷ filter p (range_with_len (a + 1) n)) (filter p (range_with_len (a + 1) n))) ≡ true
    more true h = rw h (or-true (q a))
    more false h = h

-- where each that passes one test fails another, none of them passes that
pub list_any-filter_none : (p q : ℕ → Bool) (a n : ℕ) → ((k : ℕ) → a ≤ k → k < a + n → p k ≡ true → q k ≡ false) → list_any q (filter p (range_with_len a n)) ≡ false
list_any-filter_none p q a zero h = refl
list_any-filter_none p q a (suc n) h = step (p a) refl (list_any-filter_none p q (a + 1) n (λ k low high. h k (omega arith) (omega arith)))
  where
    step : (b : Bool) → b ≡ p a → list_any q (filter p (range_with_len (a + 1) n)) ≡ false → list_any q (cond b (a ∷ filter p (range_with_len (a + 1) n)) (filter p (range_with_len (a + 1) n))) ≡ false
    step true e rest = rw (h a (omega arith) (omega arith) (sym e)) rest
    step false e rest = rest

-- where one passes, there are some
pub length-filter_some : (p : ℕ → Bool) (a n k : ℕ) → a ≤ k → k < a + n → p k ≡ true → 0 < length (filter p (range_with_len a n))
length-filter_some p a n k low high pk = is_some_list (filter p (range_with_len a n)) (list_any-filter p (λ x. true) a n k low high pk refl)
  where
    is_some_list : (xs : List ℕ) → list_any (λ x. true) xs ≡ true → 0 < length xs
    is_some_list [] h = absurd cc
    is_some_list (x ∷ xs) h = omega arith

-- where one passes among those that pass, it is a number of the range
pub list_any-filter_true : (p q : ℕ → Bool) (a n : ℕ) → list_any q (filter p (range_with_len a n)) ≡ true → (k : ℕ) × (k < a + n) × (p k ≡ true) × (q k ≡ true)
list_any-filter_true p q a zero h = absurd cc
list_any-filter_true p q a (suc n) h = at (p a) (q a) refl refl h (list_any-filter_true p q (a + 1) n)
  where
    further : ((k : ℕ) × (k < a + 1 + n) × (p k ≡ true) × (q k ≡ true)) → (k : ℕ) × (k < a + suc n) × (p k ≡ true) × (q k ≡ true)
    further f = (f.0, omega (arith, f.1), f.2, f.3)

    at : (first passes : Bool) → first ≡ p a → passes ≡ q a → list_any q (cond first (a ∷ filter p (range_with_len (a + 1) n)) (filter p (range_with_len (a + 1) n))) ≡ true → (list_any q (filter p (range_with_len (a + 1) n)) ≡ true → (k : ℕ) × (k < a + 1 + n) × (p k ≡ true) × (q k ≡ true)) → (k : ℕ) × (k < a + suc n) × (p k ≡ true) × (q k ≡ true)
    at false passes e f h rest = further (rest h)
    at true true e f h rest = (a, omega arith, sym e, sym f)
    at true false e f h rest = further (rest (rw (sym f) at h))
