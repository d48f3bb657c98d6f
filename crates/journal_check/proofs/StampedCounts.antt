-- Counts of generations.
use Rattle.std.proofs.Common.{◌≡◌, ◌≢◌, ℕ, ◌<◌, ◌==◌, inl, inr, cond, Bool, true, false, List, length, set, Option, Some, None, refl, sym, ap, ◌∙◌}
use Rattle.std.specs.Prelude.{option_and_then, slice_get, unwrap_or}
use Rattle.std.proofs.lemmas.Bool.{cases_Bool, eq-eqb, eqb-true}
use Rattle.cache_core.specs.RmidCounts.{is_rmid}
use Rattle.lists.proofs.Updates.{slice_get-set_same, slice_get-set_other}
use Rattle.lists.specs.Sums.{one_if}
use Rattle.journal_check.specs.RmidCounts.{AreZero, CountsValue, count_at, lines_of_generation}
use Rattle.journal_check.specs.declared.rmid_counts.Count.{Count}

-- where all are 0 every count is
pub count_at-zero : (v : CountsValue) (r : ℕ) → v.region_lines ≡ 0 → AreZero v.counts → count_at v r ≡ 0
count_at-zero v r none all = of (slice_get v.counts r) refl
  where
    rest : cond (r == 0) v.region_lines 0 ≡ 0
    rest = elim (cases_Bool (r == 0)) [ inl e ↦ rw e none | inr e ↦ rw e refl ]

    here : (c : Count) (b : Bool) → c.lines ≡ 0 → unwrap_or (cond b (Some c.lines) None) (cond (r == 0) v.region_lines 0) ≡ 0
    here c true zero = zero
    here c false zero = rest

    of : (o : Option Count) → slice_get v.counts r ≡ o → unwrap_or (option_and_then (lines_of_generation v.generation) o) (cond (r == 0) v.region_lines 0) ≡ 0
    of None is = rest
    of (Some c) is = here c (c.generation == v.generation) (all r c is).1

-- the count that is written
pub count_at-own : (old new : CountsValue) (r n : ℕ) → r < length old.counts → new.generation ≡ old.generation → new.counts ≡ set old.counts r (record { generation = old.generation; lines = n }) → count_at new r ≡ n
count_at-own old new r n within same is =
    ap (λ (o : Option Count). unwrap_or (option_and_then (lines_of_generation new.generation) o) (cond (r == 0) new.region_lines 0)) (ap (λ (cs : List Count). slice_get cs r) is ∙ slice_get-set_same old.counts r (record { generation = old.generation; lines = n }) within)
    ∙ ap (λ b. unwrap_or (cond b (Some n) None) (cond (r == 0) new.region_lines 0)) (eq-eqb old.generation new.generation (sym same))

-- the others
pub count_at-other : (old new : CountsValue) (r n q : ℕ) → q ≢ r → new.generation ≡ old.generation → new.region_lines ≡ old.region_lines → new.counts ≡ set old.counts r (record { generation = old.generation; lines = n }) → count_at new q ≡ count_at old q
count_at-other old new r n q apart same lines is =
    ap (λ (o : Option Count). unwrap_or (option_and_then (lines_of_generation new.generation) o) (cond (q == 0) new.region_lines 0)) (ap (λ (cs : List Count). slice_get cs q) is ∙ slice_get-set_other old.counts r q (record { generation = old.generation; lines = n }) apart)
    ∙ (ap (λ g. unwrap_or (option_and_then (lines_of_generation g) (slice_get old.counts q)) (cond (q == 0) new.region_lines 0)) same
    ∙ ap (λ k. unwrap_or (option_and_then (lines_of_generation old.generation) (slice_get old.counts q)) (cond (q == 0) k 0)) lines)

-- whether it is the RMID
pub one_if-rmid_same : (r q : ℕ) → q ≡ r → one_if (is_rmid (Some r) q) ≡ 1
one_if-rmid_same r q is = ap one_if (eq-eqb r q (sym is))

-- or another
pub one_if-rmid_other : (r q : ℕ) → q ≢ r → one_if (is_rmid (Some r) q) ≡ 0
one_if-rmid_other r q apart = elim (cases_Bool (r == q)) [
  | inl same ↦ absurd (apart (sym (eqb-true r q same)))
  | inr other ↦ rw other refl
]
