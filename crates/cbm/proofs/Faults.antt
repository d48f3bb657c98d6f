-- A mask with gaps, and the fault that it has.
use Rattle.std.proofs.Common.{◌≡◌, ◌≢◌, ℕ, ◌+◌, ◌^◌, ◌<◌, ◌≤◌, Bool, true, false, cond, eqb, List, [], ◌∷◌, length, Err, inl, inr, refl, sym, ap, ◌∙◌, arith}
use Rattle.std.proofs.lemmas.Bool.{lt-ltb, cases_lt}
use Rattle.cbm.specs.declared.fault.CbmFault.TheVariants.{Gaps}
use Rattle.cbm.specs.declared.geometry.Geometry.{Geometry}
use Rattle.cbm.specs.Masks.{lowest_run, ways_of}
use Rattle.cbm.specs.Validity.{checked, has_gaps, is_out_of_range}
use Rattle.cbm.proofs.laws.Validity.{checked_ways-in_range}
use Rattle.cbm.proofs.laws.Ways.{ways_of-injective}

-- a lowest run with as many ways as the mask is the whole mask
pub lowest_run-whole : (ways : List ℕ) → length ways ≤ length (lowest_run ways) → lowest_run ways ≡ ways
lowest_run-whole [] h = refl
lowest_run-whole (w ∷ []) h = refl
lowest_run-whole (v ∷ w ∷ ways) h = at (eqb w (v + 1)) h (lowest_run-whole (w ∷ ways))
  where
    at : (b : Bool) → length (v ∷ w ∷ ways) ≤ length (v ∷ cond b (lowest_run (w ∷ ways)) []) → (length (w ∷ ways) ≤ length (lowest_run (w ∷ ways)) → lowest_run (w ∷ ways) ≡ w ∷ ways) → v ∷ cond b (lowest_run (w ∷ ways)) [] ≡ v ∷ w ∷ ways
    at true h more = ap (λ (xs : List ℕ). v ∷ xs) (more (omega arith))
    at false h more = absurd (omega arith)

-- a lowest run that is not the whole mask leaves gaps
pub has_gaps-lost : (mask run : ℕ) → mask < 2 ^ 64 → run < 2 ^ 64 → ways_of run ≡ lowest_run (ways_of mask) → run ≢ mask → has_gaps (ways_of mask) ≡ true
has_gaps-lost mask run small_mask small_run run_is ne = elim (cases_lt (length (lowest_run (ways_of mask))) (length (ways_of mask))) [
  | inl lt ↦ lt-ltb (length (lowest_run (ways_of mask))) (length (ways_of mask)) lt
  | inr le ↦ absurd (ne (ways_of-injective run mask small_run small_mask (run_is ∙ lowest_run-whole (ways_of mask) le)))
]

-- such a mask is refused where the cache is not sparse
pub checked-gaps : (g : Geometry) (mask run : ℕ) → mask < 2 ^ 64 → run < 2 ^ 64 → is_out_of_range g (ways_of mask) ≡ false → ways_of run ≡ lowest_run (ways_of mask) → g.sparse ≡ false → run ≢ mask → Err Gaps ≡ checked g mask
unfolding checked
checked-gaps g mask run small_mask small_run within run_is sparse ne =
    sym (checked_ways-in_range g mask (ways_of mask) within ∙ rw (sparse, has_gaps-lost mask run small_mask small_run run_is ne) refl)
