use Rattle.std.proofs.Common.{◌≡◌, ℕ, ◌+◌, ◌-◌, ◌%◌, ◌<◌, List, [], ◌∷◌, ◌++◌, length, set, take, get_or, sum, vec_len, rules, refl, arith, sym, ap, ◌∙◌, subst, length-set}
use Rattle.std.specs.Prelude.{◌^◌, Option, position}
use Rattle.std.proofs.Math.Nat.{mod-lt}
use Rattle.std.proofs.lemmas.List.{get_or_default, take_all}
use Rattle.lists.proofs.Sums.{one_if-le}
use Rattle.way_curve.specs.Distances.{is_below}
use Rattle.private_lru.specs.declared.item.Item.TheVariants.{Use}
use Rattle.way_curve.specs.IsCurve.{CurveValue, IsItemCurve}
use Rattle.way_curve.specs.Slots.{dropped, has_line, pushed}
use Rattle.way_curve.proofs.CurveSteps.{AddsUse-item, IsItemCurve-use}
use Rattle.way_curve.proofs.curve.Curve.note.Goals as goal

pub invariant_of-self : goal.invariant_of-self
invariant_of-self c =
    let sets = c.self.inside.recent.items in
    let full : length c.self.inside.at_distance ≡ 32 = search rules in
    let room : c.self.inside.uses < 2 ^ 64 - 1 = subst (λ (v : CurveValue). v.uses < 2 ^ 64 - 1) (sym c.self.view_is) c.requires.room in
    let new : sum (take 32 c.count.new.uses) ≡ sum c.count.new.uses = ap sum (take_all 32 c.count.new.uses (omega (arith, c.count.auto.uses, full))) in
    let old : sum (take 32 c.self.inside.at_distance) ≡ sum c.self.inside.at_distance = ap sum (take_all 32 c.self.inside.at_distance (omega (arith, full))) in
    let more = c.count.ensures 32 (omega (arith, full)) in
    record {
      some = subst (λ (n : ℕ). 0 < n) (sym (length-set sets c.set_of-set.result c.note-distance.new.self)) c.self.invariant.some;
      within = omega (arith, new, old, more, one_if-le (is_below 32 c.note-distance.result), c.self.invariant.within);
      fits = omega (arith, room);
    }

-- what a use adds to a curve of items
pub returns-clause-item : goal.returns-clause-item
returns-clause-item c = λ items curve.
    let sets = c.self.inside.recent.items in
    let x = c.args.line in
    let own : ℕ = x % length sets in
    let full : length c.self.inside.at_distance ≡ 32 = search rules in
    let long : vec_len c.self.inside.recent ≡ length sets = search rules in
    let place : c.set_of-set.result ≡ own = c.set_of-set.ensures ∙ ap (λ (n : ℕ). x % n) (c.len.ensures ∙ long) in
    let below : own < length sets = mod-lt x c.self.invariant.some in
    let slots : c.index_mut.result.now ≡ get_or sets own [] = c.index_mut.ensures.value ∙ (ap (λ (k : ℕ). get_or sets k c.index_mut.result.now) place ∙ get_or_default sets own c.index_mut.result.now [] below) in
    let slot : c.note-distance.result ≡ position (has_line x) (get_or sets own []) = c.note-distance.ensures.slot ∙ ap (λ (l : List (Option ℕ)). position (has_line x) l) slots in
    let is : IsItemCurve _ items = subst (λ (v : CurveValue). IsItemCurve v items) (sym c.self.view_is) curve in
    let next = IsItemCurve-use (length sets) c.self.inside.uses sets c.self.inside.at_distance items x c.count.new.uses c.note-distance.result below refl slot (λ most le. c.count.ensures most (omega (arith, le, full))) is in
    let moved : c.note-distance.new.self ≡ pushed x (dropped x (get_or sets own [])) = c.note-distance.ensures.moved ∙ ap (λ (l : List (Option ℕ)). pushed x (dropped x l)) slots in
    let kept : set sets c.set_of-set.result c.note-distance.new.self ≡ set sets own (pushed x (dropped x (get_or sets own []))) =
    ap (λ (k : ℕ). set sets k c.note-distance.new.self) place ∙ ap (λ (l : List (Option ℕ)). set sets own l) moved in
    subst (λ (n : ℕ). IsItemCurve (record { sets = n; uses = c.self.inside.uses + 1; recent = set sets c.set_of-set.result c.note-distance.new.self; at_distance = c.count.new.uses }) (items ++ Use x ∷ []))
    (sym (length-set sets c.set_of-set.result c.note-distance.new.self))
    (subst (λ (r : List (List (Option ℕ))). IsItemCurve (record { sets = length sets; uses = c.self.inside.uses + 1; recent = r; at_distance = c.count.new.uses }) (items ++ Use x ∷ [])) (sym kept) next)

pub returns-clause-line : goal.returns-clause-line
returns-clause-line c = AddsUse-item c.args.self.now _ c.args.line (returns-clause-item c)
