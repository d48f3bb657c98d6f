use Rattle.std.proofs.Common.{◌≡◌, ℕ, ◌%◌, ◌<◌, List, [], ◌∷◌, ◌++◌, length, set, get_or, Option, vec_len, rules, refl, sym, ap, ◌∙◌, subst, length-set}
use Rattle.std.proofs.Math.Nat.{mod-lt}
use Rattle.std.proofs.lemmas.List.{get_or_default}
use Rattle.private_lru.specs.declared.item.Item.TheVariants.{Drop}
use Rattle.way_curve.specs.IsCurve.{CurveValue, IsItemCurve}
use Rattle.way_curve.specs.Slots.{dropped}
use Rattle.way_curve.proofs.CurveSteps.{IsItemCurve-drop}
use Rattle.way_curve.proofs.curve.Curve.drop_line.Goals as goal

pub returns-clause-item : goal.returns-clause-item
returns-clause-item c = λ items curve.
    let sets = c.self.inside.recent.items in
    let x = c.args.line in
    let own : ℕ = x % length sets in
    let at = c.self.inside.at_distance in
    let long : vec_len c.self.inside.recent ≡ length sets = search rules in
    let place : c.set_of-set.result ≡ own = c.set_of-set.ensures ∙ ap (λ (n : ℕ). x % n) (c.len.ensures ∙ long) in
    let below : own < length sets = mod-lt x c.self.invariant.some in
    let slots : c.index_mut.result.now ≡ get_or sets own [] = c.index_mut.ensures.value ∙ (ap (λ (k : ℕ). get_or sets k c.index_mut.result.now) place ∙ get_or_default sets own c.index_mut.result.now [] below) in
    let is : IsItemCurve _ items = subst (λ (v : CurveValue). IsItemCurve v items) (sym c.self.view_is) curve in
    let next = IsItemCurve-drop (length sets) c.self.inside.uses sets at items x below refl is in
    let moved : c.drop_line.new.self ≡ dropped x (get_or sets own []) = c.drop_line.ensures ∙ ap (λ (l : List (Option ℕ)). dropped x l) slots in
    let kept : set sets c.set_of-set.result c.drop_line.new.self ≡ set sets own (dropped x (get_or sets own [])) =
    ap (λ (k : ℕ). set sets k c.drop_line.new.self) place ∙ ap (λ (l : List (Option ℕ)). set sets own l) moved in
    subst (λ (n : ℕ). IsItemCurve (record { sets = n; uses = c.self.inside.uses; recent = set sets c.set_of-set.result c.drop_line.new.self; at_distance = at }) (items ++ Drop x ∷ []))
    (sym (length-set sets c.set_of-set.result c.drop_line.new.self))
    (subst (λ (r : List (List (Option ℕ))). IsItemCurve (record { sets = length sets; uses = c.self.inside.uses; recent = r; at_distance = at }) (items ++ Drop x ∷ [])) (sym kept) next)
