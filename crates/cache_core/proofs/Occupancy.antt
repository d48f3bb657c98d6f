-- The lines of all RMIDs together are the places that hold a line.
use Rattle.std.proofs.Common.{◌≡◌, ℕ, suc, zero, ◌<◌, ◌==◌, true, cond, Option, Some, None, refl, sym, ◌∙◌, arith, inl, inr}
use Rattle.std.specs.Prelude.{IfSome, is_some}
use Rattle.std.proofs.lemmas.Bool.{cases_Bool, cases_lt, eqb-true, eqb-false}
use Rattle.cache_core.specs.Filled.{places_with}
use Rattle.cache_core.specs.Fills.{Resident}
use Rattle.cache_core.specs.History.{Shape, is_own, is_of}
use Rattle.lists.specs.Sums.{sum_below, one_if}
use Rattle.lists.proofs.Sums.{sum_below-same, sum_below-zero, sum_below-swap, cond-sum_below}

-- of the numbers below a limit, one is this one
sum_below-one : (n r : ℕ) → r < n → sum_below n (λ k. cond (r == k) 1 0) ≡ 1
sum_below-one zero r h = absurd (omega arith)
sum_below-one (suc n) r h = elim (cases_Bool (r == n)) [
  | inl same ↦
      let is : r ≡ n = eqb-true r n same in
      let before : sum_below n (λ k. cond (r == k) 1 0) ≡ 0 = sum_below-zero n (λ k. cond (r == k) 1 0) (λ k l. elim (cases_Bool (r == k)) [
        | inl e ↦ absurd (let again : r ≡ k = eqb-true r k e in omega arith)
        | inr e ↦ rw e refl
      ]) in
      rw same (omega arith)
  | inr other ↦
      let apart : r ≡ n → ⊥ = eqb-false r n other in
      let less : r < n = elim (cases_lt r n) [ inl l ↦ l | inr l ↦ absurd (apart (omega arith)) ] in
      let before : sum_below n (λ k. cond (r == k) 1 0) ≡ 1 = sum_below-one n r less in
      rw other (omega arith)
]

-- a place holds a line of exactly one RMID, or none
pub one_if-is_some : (n : ℕ) (o : Option Resident) → IfSome o (λ r. r.rmid < n) → one_if (is_some o) ≡ sum_below n (λ r. one_if (is_of r o))
one_if-is_some n None h = sym (sum_below-zero n (λ r. one_if (is_of r None)) (λ k l. refl))
one_if-is_some n (Some p) h = sym (sum_below-one n p.rmid h)

-- the lines of each RMID, added up
pub sum_below-places_with : (m : Shape) (holds : ℕ → ℕ → Option Resident) (n : ℕ) → ((set way : ℕ) → set < m.sets → way < m.ways → is_own m set ≡ true → IfSome (holds set way) (λ r. r.rmid < n))
    → sum_below n (λ r. places_with m (is_of r) holds) ≡ places_with m (λ o. is_some o) holds
sum_below-places_with m holds n named =
    let place : ℕ → ℕ → ℕ → ℕ = λ set way r. one_if (is_of r (holds set way)) in
    let row : ℕ → ℕ → ℕ = λ set r. cond (is_own m set) (sum_below m.ways (λ way. place set way r)) 0 in
    sym (sum_below-swap m.sets n row)
    ∙ sum_below-same m.sets (λ set. sum_below n (λ r. row set r)) (λ set. cond (is_own m set) (sum_below m.ways (λ way. one_if (is_some (holds set way)))) 0)
    (λ set l. sym (cond-sum_below n (is_own m set) (λ r. sum_below m.ways (λ way. place set way r)))
    ∙ (elim (cases_Bool (is_own m set)) [
      | inl own ↦ rw own (sym (sum_below-swap m.ways n (λ way r. place set way r)) ∙ sum_below-same m.ways (λ way. sum_below n (λ r. place set way r)) (λ way. one_if (is_some (holds set way))) (λ way w. sym (one_if-is_some n (holds set way) (named set way l w own))))
      | inr not_own ↦ rw not_own refl
    ]))
