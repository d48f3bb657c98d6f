-- Numbers of which one is changed, and their sum.
use Rattle.std.proofs.Common.{◌≡◌, ℕ, zero, suc, ◌+◌, ◌<◌, ◌≤◌, ◌==◌, false, cond, List, length, set, get_or, ap, sym, ◌∙◌, arith, inl, inr}
use Rattle.std.proofs.lemmas.Bool.{cases_Bool, cases_lt, eqb-true, eqb-false}
use Rattle.std.proofs.lemmas.List.{get_or-set_same, get_or-set_other}
use Rattle.std.proofs.Math.ListN.{get_or-eq_default}
use Rattle.lists.specs.Sums.{one_if, sum_below}
use Rattle.lists.proofs.Sums.{sum_below-same, sum_below-zero}

-- what stands in a list of numbers after one is changed by d
pub get_or-set_more : (xs : List ℕ) (k r y d : ℕ) → k < length xs → y ≡ get_or xs k 0 + d → get_or (set xs k y) r 0 ≡ get_or xs r 0 + cond (k == r) d 0
get_or-set_more xs k r y d within is = elim (cases_Bool (k == r)) [
  | inl same ↦ let e : k ≡ r = eqb-true k r same in rw same (ap (λ i. get_or (set xs k y) i 0) (sym e) ∙ get_or-set_same xs k y 0 within ∙ is ∙ ap (λ i. get_or xs i 0 + d) e)
  | inr other ↦ rw other (get_or-set_other xs k r y 0 (λ e. eqb-false k r other (sym e)) ∙ omega arith)
]

-- a sum of which one number grows by d
pub sum_below-more : (n k d : ℕ) (f g : ℕ → ℕ) → k < n → ((r : ℕ) → g r ≡ f r + cond (k == r) d 0) → sum_below n g ≡ sum_below n f + d
sum_below-more zero k d f g within more = absurd (omega arith)
sum_below-more (suc n) k d f g within more = elim (cases_Bool (k == n)) [
  | inl same ↦
      let is : k ≡ n = eqb-true k n same in
      let rest : sum_below n g ≡ sum_below n f = sum_below-same n g f (λ r l. more r ∙ ap (λ b. f r + cond b d 0) (apart r l is) ∙ omega arith) in
      let last : g n ≡ f n + d = more n ∙ ap (λ b. f n + cond b d 0) same in
      omega arith
  | inr other ↦
      let ne : k ≡ n → ⊥ = eqb-false k n other in
      let less : k < n = elim (cases_lt k n) [ inl l ↦ l | inr l ↦ absurd (ne (omega arith)) ] in
      let rest : sum_below n g ≡ sum_below n f + d = sum_below-more n k d f g less more in
      let last : g n ≡ f n + 0 = more n ∙ ap (λ b. f n + cond b d 0) other in
      omega arith
]
  where
    apart : (r : ℕ) → r < n → k ≡ n → (k == r) ≡ false
    apart r l is = elim (cases_Bool (k == r)) [
      | inl e ↦ absurd (let again : k ≡ r = eqb-true k r e in omega arith)
      | inr e ↦ e
    ]

-- a number is at most the sum
pub le-sum_below : (n k : ℕ) (f : ℕ → ℕ) → k < n → f k ≤ sum_below n f
le-sum_below zero k f within = absurd (omega arith)
le-sum_below (suc n) k f within = elim (cases_lt k n) [
  | inl less ↦ let rest : f k ≤ sum_below n f = le-sum_below n k f less in omega arith
  | inr more ↦ let is : k ≡ n = omega arith in let e : f k ≡ f n = ap f is in omega arith
]

-- what stood in a list of numbers before one was lowered by 1
pub get_or-set_less : (xs : List ℕ) (k r y : ℕ) → k < length xs → get_or xs k 0 ≡ y + 1 → get_or xs r 0 ≡ get_or (set xs k y) r 0 + one_if (k == r)
get_or-set_less xs k r y within is = elim (cases_Bool (k == r)) [
  | inl same ↦
      let e : k ≡ r = eqb-true k r same in
      let now : get_or (set xs k y) r 0 ≡ y = ap (λ i. get_or (set xs k y) i 0) (sym e) ∙ get_or-set_same xs k y 0 within in
      rw same (ap (λ i. get_or xs i 0) (sym e) ∙ is ∙ ap (λ n. n + 1) (sym now))
  | inr other ↦ rw other (let kept : get_or (set xs k y) r 0 ≡ get_or xs r 0 = get_or-set_other xs k r y 0 (λ e. eqb-false k r other (sym e)) in omega arith)
]

-- numbers that are all 0 have the sum 0
pub sum_below-none : (n : ℕ) (f : ℕ → ℕ) → ((r : ℕ) → f r ≡ 0) → 0 ≡ sum_below n f
sum_below-none n f none = sym (sum_below-zero n f (λ k _. none k))

-- numbers whose sum is 0 are all 0
pub get_or-none : (xs : List ℕ) → 0 ≡ sum_below (length xs) (λ k. get_or xs k 0) → (r : ℕ) → get_or xs r 0 ≡ 0
get_or-none xs none r = elim (cases_lt r (length xs)) [
  | inl inside ↦ let most : get_or xs r 0 ≤ sum_below (length xs) (λ k. get_or xs k 0) = le-sum_below (length xs) r (λ k. get_or xs k 0) inside in omega arith
  | inr past ↦ get_or-eq_default xs 0 past
]
