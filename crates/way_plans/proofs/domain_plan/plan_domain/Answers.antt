use Rattle.std.proofs.Common.{ℕ, ◌^◌, ◌≤◌, Bool, List, length, sym, ap, ◌∙◌, subst, arith, take_all}
use Rattle.std.specs.Prelude.{All, option_map}
use Rattle.std.proofs.lemmas.List.{length-map}
use Rattle.way_plans.specs.GroupItems.{items_of}
use Rattle.group_tree.specs.declared.group.Group.{Group}
use Rattle.machine.specs.declared.parameters.Parameters.{Parameters}
use Rattle.run_law.proofs.laws.SoundHistories.{IsSound-take}
use Rattle.run_law.specs.TreeHistory.{TreeEntryValue, tree_after}
use Rattle.tree_law.specs.Sound.{IsSound}
use Rattle.tree_law.specs.State.{State}
use Rattle.way_plans.specs.Orders.{IsBestIfAnyIn, order_of}
use Rattle.way_plans.specs.Plans.{free_ways, misses_in, misses_of, planned}
use Rattle.way_plans.specs.Values.{spans_of}
use Rattle.way_plans.proofs.FewGroups.{length-planned}
use Rattle.way_plans.proofs.domain_plan.plan_domain.Goals as goal

pub best_division-requires-clause-few : goal.best_division-requires-clause-few
best_division-requires-clause-few c =
    let script = c.args.script.now in
    let tree = c.args.journals.now.tree in
    let sound = IsSound-take script tree c.requires.lawful c.requires.run.tree_legal (length tree) (omega arith) in
    let whole : IsSound script.machine (tree_after script tree) = subst (λ (t : List TreeEntryValue). IsSound script.machine (tree_after script t)) (take_all (length tree) tree (omega arith)) sound in
    let few = length-planned script.machine (tree_after script tree) whole in
    let groups = ap length (c.requires.groups ∙ ap planned c.requires.state) in
    let rows = ap length (c.as_slice.ensures.value ∙ c.in_ok-misses.ensures.rows) in
    let all = length-map c.args.left.now.groups.now (λ (g : Group). misses_of script.machine.sets (items_of script.machine c.args.journals.now c.args.domain g.gid.0)) in
    omega (arith, rows, all, groups, few, c.requires.lawful.in_range.class_limit)

pub returns-clause-few_groups : goal.returns-clause-few_groups
returns-clause-few_groups c =
    let script = c.args.script.now in
    let tree = c.args.journals.now.tree in
    let sound = IsSound-take script tree c.requires.lawful c.requires.run.tree_legal (length tree) (omega arith) in
    let whole : IsSound script.machine (tree_after script tree) = subst (λ (t : List TreeEntryValue). IsSound script.machine (tree_after script t)) (take_all (length tree) tree (omega arith)) sound in
    let few = length-planned script.machine (tree_after script tree) whole in
    let groups = ap length (c.requires.groups ∙ ap planned c.requires.state) in
    let rows = ap length c.in_ok-misses.ensures.rows in
    let all = length-map c.args.left.now.groups.now (λ (g : Group). misses_of script.machine.sets (items_of script.machine c.args.journals.now c.args.domain g.gid.0)) in
    omega (arith, rows, all, groups, few, c.requires.lawful.in_range.class_limit)

pub best_division-requires-clause-counts : goal.best_division-requires-clause-counts
best_division-requires-clause-counts c = subst (All (All (λ (n : ℕ). n ≤ 2 ^ 48))) (sym c.as_slice.ensures.value) c.in_ok-misses.ensures.few

pub returns-clause-best : goal.returns-clause-best
returns-clause-best c =
    let script = c.args.script.now in
    let j = c.args.journals.now in
    let domain = c.args.domain in
    let m : Parameters = script.machine in
    let left : State = tree_after script j.tree in
    let least = ap (λ (p : Parameters). p.min) c.machine.ensures in
    let rows = c.as_slice.ensures.value ∙ (c.in_ok-misses.ensures.rows ∙ ap (misses_in script j domain) (c.requires.groups ∙ ap planned c.requires.state)) in
    let free = c.free_ways-free.ensures ∙ (ap (λ (p : Parameters). free_ways p c.args.left.now.tree.now.state domain) c.requires.machine ∙ ap (λ (s : State). free_ways m s domain) c.requires.state) in
    let spans = option_map spans_of c.in_ok-division.division.spans in
    subst (λ (f : List Bool). IsBestIfAnyIn (order_of f) f m.min (misses_in script j domain (planned left)) spans) free
    (subst (λ (r : List (List ℕ)). IsBestIfAnyIn (order_of c.free_ways-free.result) c.free_ways-free.result m.min r spans) rows
    (subst (λ (n : ℕ). IsBestIfAnyIn (order_of c.free_ways-free.result) c.free_ways-free.result n c.as_slice.result.now spans) least c.in_ok-division.ensures.best))

pub returns-clause-order : goal.returns-clause-order
returns-clause-order c =
    let script = c.args.script.now in
    let m : Parameters = script.machine in
    let domain = c.args.domain in
    let free = c.free_ways-free.ensures ∙ (ap (λ (p : Parameters). free_ways p c.args.left.now.tree.now.state domain) c.requires.machine ∙ ap (λ (s : State). free_ways m s domain) c.requires.state) in
    c.in_ok-division.ensures.order ∙ ap order_of free
