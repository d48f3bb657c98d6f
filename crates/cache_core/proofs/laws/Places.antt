-- How many places of a slice pass a test, by what each holds.
use Rattle.std.proofs.Common.{◌≡◌, ℕ, ◌+◌, ◌*◌, ◌%◌, ◌<◌, ◌≤◌, Bool, true, cond, Option, refl, ap, arith, inl, inr}
use Rattle.std.specs.Prelude.{if◌then◌else◌}
use Rattle.std.proofs.lemmas.Bool.{cases_Bool, eq-eqb, eqb-true}
use Rattle.cache_core.specs.Filled.{AreAlike, places_with}
use Rattle.cache_core.specs.Fills.{Resident}
use Rattle.cache_core.specs.History.{Shape, IsOwn, is_own}
use Rattle.lists.specs.Sums.{one_if, sum_below}
use Rattle.lists.proofs.Sums.{cond-le, one_if-le, sum_below-le, sum_below-same, sum_below-greater}

-- ---- counts of places

-- the counts of places that hold the same
pub places_with-same : (m : Shape) (p : Option Resident → Bool) (holds other : ℕ → ℕ → Option Resident) → AreAlike m holds other → places_with m p holds ≡ places_with m p other
places_with-same m p holds other alike =
    sum_below-same m.sets _ _ (λ set inside. elim (cases_Bool (is_own m set)) [
      | inl own ↦ rw own (sum_below-same m.ways (λ way. one_if (p (holds set way))) (λ way. one_if (p (other set way))) (λ way w. ap (λ o. one_if (p o)) (alike set way (inside, eqb-true (set % m.slices) m.slice own) w)))
      | inr not_own ↦ rw not_own refl
    ])

-- the count after a change of one place
pub places_with-changed : (m : Shape) (p : Option Resident → Bool) (holds other : ℕ → ℕ → Option Resident) (set way more : ℕ) → IsOwn m set → way < m.ways
    → ((s w : ℕ) → ((s ≡ set) × (w ≡ way) → ⊥) → other s w ≡ holds s w) → one_if (p (other set way)) ≡ one_if (p (holds set way)) + more
    → places_with m p other ≡ places_with m p holds + more
places_with-changed m p holds other set way more own inside same here =
    sum_below-greater m.sets set more _ _ own.0
    (λ s lt apart. ap (λ n. cond (is_own m s) n 0) (sum_below-same m.ways (λ w. one_if (p (other s w))) (λ w. one_if (p (holds s w))) (λ w lw. ap (λ o. one_if (p o)) (same s w (λ both. apart both.0)))))
    (row (is_own m set) _ _ (eq-eqb (set % m.slices) m.slice own.1)
    (sum_below-greater m.ways way more (λ w. one_if (p (holds set w))) (λ w. one_if (p (other set w))) inside (λ w lw apart. ap (λ o. one_if (p o)) (same set w (λ both. apart both.1))) here))
  where
    row : (b : Bool) (f g : ℕ) → b ≡ true → f ≡ g + more → cond b f 0 ≡ cond b g 0 + more
    row b f g is e = rw is e

-- at most all places of its domain
pub places_with-le : (m : Shape) (p : Option Resident → Bool) (holds : ℕ → ℕ → Option Resident) → places_with m p holds ≤ m.sets * m.ways
places_with-le m p holds =
    let row : ℕ → ℕ = λ set. sum_below m.ways (λ way. one_if (p (holds set way))) in
    sum_below-le m.sets m.ways (λ set. if is_own m set then row set else 0)
    (λ set. cond-le (is_own m set) (row set) m.ways
    (let all : row set ≤ m.ways * 1 = sum_below-le m.ways 1 (λ way. one_if (p (holds set way))) (λ way. one_if-le (p (holds set way))) in
    omega (arith, all)))
