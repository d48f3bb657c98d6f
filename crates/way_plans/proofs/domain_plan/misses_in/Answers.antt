use Rattle.std.proofs.Common.{◌≡◌, ℕ, ◌^◌, ◌≤◌, List, [], ◌∷◌, ◌++◌, take, get_or, sym, subst, ap, ◌∙◌, arith}
use Rattle.std.specs.Prelude.{All}
use Rattle.std.proofs.lemmas.List.Elements.{All-push}
use Rattle.way_plans.specs.GroupItems.{items_of}
use Rattle.group_tree.specs.declared.group.Group.{Group}
use Rattle.private_lru.specs.declared.item.Item.{Item}
use Rattle.way_curve.specs.ItemCurves.{uses_in}
use Rattle.way_plans.specs.Plans.{misses_in, misses_of}
use Rattle.way_plans.proofs.FewMisses.{few-misses_of}
use Rattle.way_plans.proofs.Lists.{map-take_more}
use Rattle.way_plans.proofs.domain_plan.misses_in.Goals as goal

pub loop-group-preserved : goal.loop-group-preserved
loop-group-preserved c =
    let script = c.args.script.now in
    let j = c.args.journals.now in
    let domain = c.args.domain in
    let groups = c.args.groups.now in
    let i = c.loop-group.group-index in
    let curve = c.in_ok-curve.curve in
    let row : Group → List ℕ = λ g. misses_of script.machine.sets (items_of script.machine j domain g.gid.0) in
    let items : List Item = items_of script.machine j domain (get_or groups i _).gid.0 in
    let made = c.misses_of.ensures items c.in_ok-curve.ensures.curve in
    let is : c.misses_of.result ≡ misses_of script.machine.sets items = made ∙ ap (λ (n : ℕ). misses_of n items) c.in_ok-curve.ensures.sets in
    let few : uses_in items ≤ 2 ^ 48 = omega (arith, c.in_ok-curve.ensures.few, c.in_ok-curve.ensures.curve.uses) in
    let own : All (λ (n : ℕ). n ≤ 2 ^ 48) c.misses_of.result = subst (All (λ (n : ℕ). n ≤ 2 ^ 48)) (sym is) (few-misses_of script.machine.sets items (2 ^ 48) few) in
    let pushed = c.in_ok-push.ensures.items in
    let old = c.loop-group.rows.items in
    record {
      rows = pushed ∙ (ap (λ (l : List (List ℕ)). l ++ c.misses_of.result ∷ []) c.loop-group.invariant.rows
          ∙ (ap (λ (r : List ℕ). misses_in script j domain (take i groups) ++ r ∷ []) is ∙ sym (map-take_more row groups i _ c.loop-group-test.true)));
      few = subst (All (All (λ (n : ℕ). n ≤ 2 ^ 48))) (sym pushed) (All-push (All (λ (n : ℕ). n ≤ 2 ^ 48)) old c.misses_of.result c.loop-group.invariant.few own);
    }
