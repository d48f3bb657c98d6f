-- Counts over the slices of a domain.
use Rattle.std.proofs.Common.{◌≡◌, ℕ, suc, ◌+◌, ◌<◌, List, [], ◌∷◌, ◌++◌, length, get_or, None, Some, refl, sym, ap, ◌∙◌, subst, arith, inl, inr}
use Rattle.std.specs.Prelude.{slice_index}
use Rattle.std.proofs.Math.ListN.{get_or-append}
use Rattle.std.proofs.lemmas.Bool.{cases_lt}
use Rattle.std.proofs.lemmas.List.{get_or_past, get_or_push, length_push}
use Rattle.std.proofs.lemmas.Option.{get_or_from_slice_get, slice_get-get_or, slice_get_within}
use Rattle.lists.specs.Sums.{sum_below}
use Rattle.cache_core.specs.History.{lines_of, valid_of}
use Rattle.cache_core.specs.declared.entry.SliceEntry.{SliceEntry}
use Rattle.machine.specs.Ranges.{InRange}
use Rattle.machine.specs.declared.parameters.Parameters.{Parameters}
use Rattle.run_counts.specs.DomainLines.{DomainLinesValue, IsOfDomain}
use Rattle.run_counts.specs.Occupancies.{HasCountedDomain, IsAtMost, OccupancyValue, lines_told}
use Rattle.run_counts.specs.RunCounts.{AreOfDomains}
use Rattle.run_law.proofs.laws.Lines.{lines_of-few, valid_of-few}
use Rattle.run_law.specs.Journals.{JournalsValue}
use Rattle.run_law.specs.Slices.{shape_in}
use Rattle.script_ops.specs.Values.{ScriptValue}

-- one more of these numbers
pub sum_below-more : (n total here : ℕ) (f : ℕ → ℕ) → total ≡ sum_below n f → here ≡ f n → total + here ≡ sum_below (n + 1) f
sum_below-more n total here f so_far next =
    let e : n + 1 ≡ suc n = omega arith in
    rw (e, so_far, next) refl

-- what a slice of a machine adds is little
pub IsAtMost-counted : (m : Parameters) (i : ℕ) (entries : List SliceEntry) (most : ℕ) (old new : OccupancyValue) → InRange m → length new.counts ≡ length old.counts
    → ((r : ℕ) → r < length old.counts → lines_told new r ≡ lines_told old r + lines_of (shape_in m i) entries r) → new.valid ≡ old.valid + valid_of (shape_in m i) entries
    → IsAtMost most old → IsAtMost (most + 2097152) new
IsAtMost-counted m i entries most old new range same counts valid few = record {
  counts = λ r. elim (cases_lt r (length old.counts)) [
    | inl there ↦ let is = counts r there in let was = few.counts r in omega (arith, is, was, lines_of-few m i entries r range)
    | inr past ↦ let none : lines_told new r ≡ 0 = get_or_past new.counts r 0 (omega arith) in omega (arith, none)
  ];
  valid = let was = few.valid in omega (arith, valid, was, valid_of-few m i entries range);
}

-- the lines of a domain that were told
pub IsOfDomain-told : (script : ScriptValue) (j : JournalsValue) (domain : ℕ) (o : OccupancyValue) (d : DomainLinesValue) → d.counts ≡ o.counts → d.valid ≡ o.valid → HasCountedDomain script j domain o → IsOfDomain script j domain d
IsOfDomain-told script j domain o d counts valid counted = record {
  rmids = ap length counts ∙ counted.suits.rmids;
  lines = λ rmid there. ap (λ (all : List ℕ). slice_index all rmid) counts ∙ counted.lines rmid there;
  valid = valid ∙ counted.valid;
}

-- no domain yet
pub AreOfDomains-none : (script : ScriptValue) (j : JournalsValue) (ds : List DomainLinesValue) → ds ≡ [] → AreOfDomains script j 0 ds
AreOfDomains-none script j ds none = subst (AreOfDomains script j 0) (sym none) (record { count = refl; lines = λ domain d at. absurd (let some : None ≡ Some d = at in cc) })

-- one domain more
pub AreOfDomains-push : (script : ScriptValue) (j : JournalsValue) (n : ℕ) (ds : List DomainLinesValue) (d : DomainLinesValue) → AreOfDomains script j n ds → IsOfDomain script j n d → AreOfDomains script j (n + 1) (ds ++ d ∷ [])
AreOfDomains-push script j n ds d before here = record {
  count = length_push ds d ∙ ap (λ k. k + 1) before.count;
  lines = λ k other at.
      let within : k < length (ds ++ d ∷ []) = slice_get_within (ds ++ d ∷ []) k other at in
      let is : get_or (ds ++ d ∷ []) k other ≡ other = get_or_from_slice_get (ds ++ d ∷ []) k other other at in
      elim (cases_lt k (length ds)) [
        | inl old ↦ before.lines k other (slice_get-get_or ds k other old ∙ ap (λ (x : DomainLinesValue). Some x) (sym (get_or-append ds (d ∷ []) other k old) ∙ is))
        | inr past ↦
            let last : length ds ≡ k = let size = length_push ds d in omega arith in
            let same : d ≡ other = sym (get_or_push ds d other k last) ∙ is in
            subst (λ (i : ℕ). IsOfDomain script j i other) (sym before.count ∙ last) (subst (λ (x : DomainLinesValue). IsOfDomain script j n x) same here)
      ];
}
