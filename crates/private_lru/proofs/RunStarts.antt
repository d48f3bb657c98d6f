-- Where the uses of a line begin.
use Rattle.std.proofs.Common.{◌≡◌, ℕ, ◌+◌, ◌-◌, ◌<◌, ◌≤◌, ◌⊎◌, List, get_or, Some, inl, inr, sym, ap, ◌∙◌, arith}
use Rattle.std.specs.Prelude.{slice_get}
use Rattle.std.proofs.lemmas.Bool.{cases_lt}
use Rattle.std.proofs.lemmas.Option.{get_or_from_slice_get, same_Some, slice_get-get_or, slice_get_within}
use Rattle.private_lru.specs.Cuts.{IsStart}
use Rattle.private_lru.specs.Uses.{AreByLine}
use Rattle.private_lru.specs.declared.uses.LineUse.{LineUse}

-- none at first
pub IsStart-none : (uses : List LineUse) → IsStart uses 0 0
IsStart-none uses = record {
  early = omega arith;
  same = λ i u v at its from lt. absurd (omega (arith, lt));
  others = λ i u v at its lt. absurd (omega (arith, lt));
}

module _ (uses : List LineUse) (by_line : AreByLine uses) (n start : ℕ) (first next : LineUse) (at_first : slice_get uses start ≡ Some first) (at_next : slice_get uses n ≡ Some next) (was : IsStart uses n start) where
  -- a use does not stand on a lower line than one before it
  line-le : (i k : ℕ) (u v : LineUse) → slice_get uses i ≡ Some u → slice_get uses k ≡ Some v → i ≤ k → u.line ≤ v.line
  line-le i k u v at its le =
      let rises = by_line.lines i k u le (slice_get_within uses k v its) in
      let a = ap (λ (w : LineUse). w.line) (get_or_from_slice_get uses i u u at) in
      let b = ap (λ (w : LineUse). w.line) (get_or_from_slice_get uses k v u its) in
      omega (arith, rises, a, b)

  -- the use that stands there
  here : (i : ℕ) (u v : LineUse) → slice_get uses i ≡ Some u → (k : ℕ) → slice_get uses k ≡ Some v → k ≡ i → u ≡ v
  here i u v at k its same = same_Some u v (sym at ∙ (ap (slice_get uses) (sym same) ∙ its))

  -- the next use is of the same line
  pub IsStart-same : first.line ≡ next.line → IsStart uses (n + 1) start
  IsStart-same line = record {
    early = let early = was.early in omega (arith, early);
    same = λ i u v at its from lt. elim (cases_lt i n) [
      | inl before ↦ was.same i u v at its from before
      | inr late ↦
          let same : i ≡ n = omega (arith, lt, late) in
          let is_first : u ≡ first = same_Some u first (sym at ∙ at_first) in
          let is_next : next ≡ v = here n next v at_next i its same in
          let u_line = ap (λ (w : LineUse). w.line) is_first in
          let v_line = ap (λ (w : LineUse). w.line) is_next in
          (omega (arith, u_line, v_line, line), place u v at is_first is_next (cases_lt start n))
    ];
    others = was.others;
  }
    where
      place : (u v : LineUse) → slice_get uses start ≡ Some u → u ≡ first → next ≡ v → (start < n) ⊎ (n ≤ start) → u.at ≤ v.at
      place u v at is_first is_next (inl lt) =
          let k : ℕ = n - 1 in
          let within = slice_get_within uses n next at_next in
          let up : k + 1 ≡ n = omega (arith, lt) in
          let before : LineUse = get_or uses k first in
          let at_before : slice_get uses k ≡ Some before = slice_get-get_or uses k first (omega (arith, lt, within)) in
          let kept = was.same k u before at at_before (omega (arith, lt)) (omega (arith, lt)) in
          let is_after : get_or uses (k + 1) first ≡ next = ap (λ j. get_or uses j first) up ∙ get_or_from_slice_get uses n next first at_next in
          let after_line = ap (λ (w : LineUse). w.line) is_after in
          let after_at = ap (λ (w : LineUse). w.at) is_after in
          let u_line = ap (λ (w : LineUse). w.line) is_first in
          let v_at = ap (λ (w : LineUse). w.at) is_next in
          let rises = by_line.places k first (omega (arith, up, within)) (omega (arith, kept.0, after_line, u_line, line)) in
          omega (arith, kept.1, rises, after_at, v_at)
      place u v at is_first is_next (inr ge) =
          let early = was.early in
          let same : n ≡ start = omega (arith, ge, early) in
          let is : u ≡ next = here start u next at n at_next same in
          let u_at = ap (λ (w : LineUse). w.at) is in
          let v_at = ap (λ (w : LineUse). w.at) is_next in
          omega (arith, u_at, v_at)

  -- it is of another line
  pub IsStart-next : (first.line ≡ next.line → ⊥) → IsStart uses (n + 1) n
  IsStart-next apart = record {
    early = omega arith;
    same = λ i u v at its from lt.
        let same : i ≡ n = omega (arith, from, lt) in
        let is : u ≡ v = here n u v at i its same in
        (sym (ap (λ (w : LineUse). w.line) is), (let places = ap (λ (w : LineUse). w.at) is in omega (arith, places)));
    others = λ i u v at its lt.
        let u_line = ap (λ (w : LineUse). w.line) (same_Some next u (sym at_next ∙ at)) in
        elim (cases_lt i start) [
          | inl before ↦
              let low = was.others i first v at_first its before in
              let early = was.early in
              let le = line-le start n first next at_first at_next (omega (arith, early)) in
              omega (arith, low, le, u_line)
          | inr late ↦
              let same = (was.same i first v at_first its late lt).0 in
              let le = line-le i n v next its at_next (omega (arith, lt)) in
              let other : v.line ≡ next.line → ⊥ = λ is. apart (sym same ∙ is) in
              omega (arith, le, u_line, other)
        ];
  }
