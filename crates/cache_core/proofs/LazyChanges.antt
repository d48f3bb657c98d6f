-- What a renewal of a set and a change of it do to the sets of a slice that are renewed when they are touched.
use Rattle.std.proofs.Common.{◌≡◌, ◌≢◌, ℕ, ◌<◌, ◌==◌, cond, List, [], length, Option, Some, None, slice_set, sym, ◌∙◌, ap, subst, arith, inl, inr}
use Rattle.std.specs.Prelude.{slice_index}
use Rattle.std.proofs.lemmas.Bool.{cases_Bool, eqb-true, eqb-false}
use Rattle.std.proofs.lemmas.List.{ext_get_or, get_or-set_same, get_or-set_other, length-set}
use Rattle.cache_core.specs.declared.emptied.Emptied.{Emptied}
use Rattle.cache_core.specs.declared.cached_line.CachedLine.{CachedLine}
use Rattle.cache_core.specs.Fills.{Holds}
use Rattle.cache_core.specs.Lazy.{lazy_sets, left_set}
use Rattle.cache_core.specs.Places.{resident_in, set_in}
use Rattle.cache_core.specs.Stands.{Drops}
use Rattle.cache_core.proofs.KeptPlaces.{get_or-set}
use Rattle.cache_core.proofs.LazyViews.{length-lazy_sets, set_in-behind, set_in-lazy_sets, set_in-renewed}

-- where two agree on every set
lazy_sets-same : (emptied : Emptied) (stored now : List (List (Option CachedLine))) (renewed again : List ℕ) (generation : ℕ) → length now ≡ length stored
    → ((set : ℕ) → set < length stored → set_in (lazy_sets emptied now again generation) set ≡ set_in (lazy_sets emptied stored renewed generation) set)
    → lazy_sets emptied now again generation ≡ lazy_sets emptied stored renewed generation
lazy_sets-same emptied stored now renewed again generation count same =
    let size : length (lazy_sets emptied now again generation) ≡ length now = length-lazy_sets emptied now again generation in
    ext_get_or [] (lazy_sets emptied now again generation) (lazy_sets emptied stored renewed generation) (size ∙ (count ∙ sym (length-lazy_sets emptied stored renewed generation)))
    (λ i l. same i (omega arith))

-- a renewal of a set that is behind changes nothing
pub lazy_sets-renewed : (emptied : Emptied) (stored : List (List (Option CachedLine))) (renewed : List ℕ) (generation at : ℕ) → length renewed ≡ length stored → at < length stored → slice_index renewed at < generation
    → lazy_sets emptied (slice_set stored at (left_set emptied at (length (set_in stored at)))) (slice_set renewed at generation) generation ≡ lazy_sets emptied stored renewed generation
lazy_sets-renewed emptied stored renewed generation at count within less =
    let row : List (Option CachedLine) = left_set emptied at (length (set_in stored at)) in
    let now : List (List (Option CachedLine)) = slice_set stored at row in
    let again : List ℕ = slice_set renewed at generation in
    let size : length now ≡ length stored = length-set stored at row in
    let here : slice_index again at ≡ generation = get_or-set_same renewed at generation 0 (omega arith) in
    lazy_sets-same emptied stored now renewed again generation size
    (λ set inside. elim (cases_Bool (at == set)) [
      | inl e ↦
          subst (λ k. set_in (lazy_sets emptied now again generation) k ≡ set_in (lazy_sets emptied stored renewed generation) k) (eqb-true at set e)
          (set_in-renewed emptied now again generation at (omega arith) here
          ∙ (get_or-set_same stored at row [] within ∙ sym (set_in-behind emptied stored renewed generation at within less)))
      | inr e ↦
          let apart : set ≢ at = λ is. eqb-false at set e (sym is) in
          let kept : set_in now set ≡ set_in stored set = get_or-set_other stored at set row [] apart in
          let noted : slice_index again set ≡ slice_index renewed set = get_or-set_other renewed at set generation 0 apart in
          set_in-lazy_sets emptied now again generation set (omega arith)
          ∙ (ap (λ n. cond (n == generation) (set_in now set) (left_set emptied set (length (set_in now set)))) noted
          ∙ (ap (λ ps. cond (slice_index renewed set == generation) ps (left_set emptied set (length ps))) kept
          ∙ sym (set_in-lazy_sets emptied stored renewed generation set inside)))
    ])

-- a change of a set that was renewed
pub lazy_sets-slice_set : (emptied : Emptied) (stored : List (List (Option CachedLine))) (renewed : List ℕ) (generation at : ℕ) (row : List (Option CachedLine)) → at < length stored → slice_index renewed at ≡ generation
    → lazy_sets emptied (slice_set stored at row) renewed generation ≡ slice_set (lazy_sets emptied stored renewed generation) at row
lazy_sets-slice_set emptied stored renewed generation at row within is =
    let now : List (List (Option CachedLine)) = slice_set stored at row in
    let before : List (List (Option CachedLine)) = lazy_sets emptied stored renewed generation in
    let size : length now ≡ length stored = length-set stored at row in
    let count : length (lazy_sets emptied now renewed generation) ≡ length now = length-lazy_sets emptied now renewed generation in
    let old : length before ≡ length stored = length-lazy_sets emptied stored renewed generation in
    ext_get_or [] (lazy_sets emptied now renewed generation) (slice_set before at row) (count ∙ (size ∙ (sym old ∙ sym (length-set before at row))))
    (λ set l. (elim (cases_Bool (at == set)) [
      | inl e ↦
          rw e
          (subst (λ k. set_in (lazy_sets emptied now renewed generation) k ≡ row) (eqb-true at set e)
          (set_in-renewed emptied now renewed generation at (omega arith) is ∙ get_or-set_same stored at row [] within))
      | inr e ↦
          let kept : set_in now set ≡ set_in stored set = get_or-set_other stored at set row [] (λ same. eqb-false at set e (sym same)) in
          rw e
          (set_in-lazy_sets emptied now renewed generation set (omega arith)
          ∙ (ap (λ ps. cond (slice_index renewed set == generation) ps (left_set emptied set (length ps))) kept
          ∙ sym (set_in-lazy_sets emptied stored renewed generation set (omega arith))))
    ]) ∙ sym (get_or-set before at set row [] (omega arith)))

-- a set that was renewed and then changed
pub set_in-touched : (emptied : Emptied) (stored now : List (List (Option CachedLine))) (renewed : List ℕ) (generation at : ℕ) → at < length stored → slice_index renewed at ≡ generation → now ≡ slice_set stored at (set_in now at)
    → set_in (lazy_sets emptied now renewed generation) at ≡ set_in now at
set_in-touched emptied stored now renewed generation at within is changed =
    let size : length now ≡ length stored = ap length changed ∙ length-set stored at (set_in now at) in
    set_in-renewed emptied now renewed generation at (omega arith) is

-- all sets then
pub lazy_sets-touched : (emptied : Emptied) (stored now : List (List (Option CachedLine))) (renewed : List ℕ) (generation at : ℕ) → at < length stored → slice_index renewed at ≡ generation → now ≡ slice_set stored at (set_in now at)
    → lazy_sets emptied now renewed generation ≡ slice_set (lazy_sets emptied stored renewed generation) at (set_in (lazy_sets emptied now renewed generation) at)
lazy_sets-touched emptied stored now renewed generation at within is changed =
    ap (λ ps. lazy_sets emptied ps renewed generation) changed
    ∙ (lazy_sets-slice_set emptied stored renewed generation at (set_in now at) within is
    ∙ ap (λ ps. slice_set (lazy_sets emptied stored renewed generation) at ps) (sym (set_in-touched emptied stored now renewed generation at within is changed)))

-- a drop of a line of such a set
pub Drops-lazy : (emptied : Emptied) (stored now : List (List (Option CachedLine))) (renewed : List ℕ) (generation set line : ℕ) (answer : Option ℕ) → set < length stored → slice_index renewed set ≡ generation
    → Drops stored now set line answer → Drops (lazy_sets emptied stored renewed generation) (lazy_sets emptied now renewed generation) set line answer
Drops-lazy emptied stored now renewed generation set line None within is drops =
    let row : set_in (lazy_sets emptied stored renewed generation) set ≡ set_in stored set = set_in-renewed emptied stored renewed generation set within is in
    (subst (λ ps. (w : ℕ) → Holds (resident_in ps) line w → ⊥) (sym row) drops.0, ap (λ ps. lazy_sets emptied ps renewed generation) drops.1)
Drops-lazy emptied stored now renewed generation set line (Some way) within is drops =
    let row : set_in (lazy_sets emptied stored renewed generation) set ≡ set_in stored set = set_in-renewed emptied stored renewed generation set within is in (
      subst (λ ps. way < length ps) (sym row) drops.0,
      subst (λ ps. Holds (resident_in ps) line way) (sym row) drops.1,
      ap (λ ps. lazy_sets emptied ps renewed generation) drops.2
          ∙ (lazy_sets-slice_set emptied stored renewed generation set (slice_set (set_in stored set) way None) within is
          ∙ ap (λ ps. slice_set (lazy_sets emptied stored renewed generation) set (slice_set ps way None)) (sym row)),
    )
