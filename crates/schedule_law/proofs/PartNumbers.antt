-- The numbers of the parts are apart.
use Rattle.std.proofs.Common.{◌≡◌, inl, inr, ℕ, ◌==◌, false, sym, ◌∙◌, ap, arith}
use Rattle.std.proofs.lemmas.Bool.{cases_Bool, eqb-true, eqb-false, eq-eqb, ne_eqb}
use Rattle.schedule_law.specs.Parts.{number_of_slice, number_of_thread}

pub slice_not_tree : (i : ℕ) → (number_of_slice i == 0) ≡ false
slice_not_tree i = ne_eqb (number_of_slice i) 0 (λ h. omega (arith, h))

pub slice_not_phase : (i : ℕ) → (number_of_slice i == 1) ≡ false
slice_not_phase i = ne_eqb (number_of_slice i) 1 (λ h. omega (arith, h))

pub slice_not_thread : (i t : ℕ) → (number_of_slice i == number_of_thread t) ≡ false
slice_not_thread i t = ne_eqb (number_of_slice i) (number_of_thread t) (λ h. omega (arith, h))

pub thread_not_tree : (t : ℕ) → (number_of_thread t == 0) ≡ false
thread_not_tree t = ne_eqb (number_of_thread t) 0 (λ h. omega (arith, h))

pub thread_not_phase : (t : ℕ) → (number_of_thread t == 1) ≡ false
thread_not_phase t = ne_eqb (number_of_thread t) 1 (λ h. omega (arith, h))

pub thread_not_slice : (t i : ℕ) → (number_of_thread t == number_of_slice i) ≡ false
thread_not_slice t i = ne_eqb (number_of_thread t) (number_of_slice i) (λ h. omega (arith, h))

pub tree_not_slice : (i : ℕ) → (0 == number_of_slice i) ≡ false
tree_not_slice i = ne_eqb 0 (number_of_slice i) (λ h. omega (arith, h))

pub tree_not_thread : (t : ℕ) → (0 == number_of_thread t) ≡ false
tree_not_thread t = ne_eqb 0 (number_of_thread t) (λ h. omega (arith, h))

pub phase_not_thread : (t : ℕ) → (1 == number_of_thread t) ≡ false
phase_not_thread t = ne_eqb 1 (number_of_thread t) (λ h. omega (arith, h))

pub slice_same : (i k : ℕ) → (number_of_slice i == number_of_slice k) ≡ (i == k)
slice_same i k = elim (cases_Bool (i == k)) [
  | inl h ↦ eq-eqb (number_of_slice i) (number_of_slice k) (ap number_of_slice (eqb-true i k h)) ∙ sym h
  | inr h ↦ ne_eqb (number_of_slice i) (number_of_slice k) (λ e. eqb-false i k h (omega (arith, e))) ∙ sym h
]

pub thread_same : (t u : ℕ) → (number_of_thread t == number_of_thread u) ≡ (t == u)
thread_same t u = elim (cases_Bool (t == u)) [
  | inl h ↦ eq-eqb (number_of_thread t) (number_of_thread u) (ap number_of_thread (eqb-true t u h)) ∙ sym h
  | inr h ↦ ne_eqb (number_of_thread t) (number_of_thread u) (λ e. eqb-false t u h (omega (arith, e))) ∙ sym h
]
