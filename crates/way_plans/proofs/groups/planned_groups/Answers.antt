use Rattle.std.proofs.Common.{List, [], ◌∷◌, ◌++◌, sym, ap, ◌∙◌}
use Rattle.std.specs.Prelude.{filter, slice_get}
use Rattle.group_tree.specs.declared.group.Group.{Group}
use Rattle.tree_law.specs.Counted.{is_counted}
use Rattle.way_plans.proofs.Lists.{filter-take_more}
use Rattle.way_plans.proofs.groups.planned_groups.Goals as goal

pub loop-i-preserved : goal.loop-i-preserved
loop-i-preserved c =
    let groups = c.args.tree.now.state.groups in
    let g = c.in-Some.group.now in
    let there = c.in-Some.ensures.found ∙ ap (λ (gs : List Group). slice_get gs c.loop-i.i) c.groups-groups.ensures.groups in
    c.in_ok-push_counted-in-Some.ensures
    ∙ (ap (λ (l : List Group). l ++ filter is_counted (g ∷ [])) c.loop-i.invariant ∙ sym (filter-take_more is_counted groups c.loop-i.i g (sym there)))
