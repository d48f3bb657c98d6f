use Rattle.std.proofs.Common.{◌≡◌, take}
use Rattle.std.specs.Prelude.{filter}
use Rattle.tree_law.specs.Counted.{is_counted}
use Rattle.way_plans.proofs.groups.planned_groups.Given as goal

abbrev pub invariant-loop-i : goal.invariant-loop-i
invariant-loop-i l = l.found.items ≡ filter is_counted (take l.i l.tree.state.groups)
