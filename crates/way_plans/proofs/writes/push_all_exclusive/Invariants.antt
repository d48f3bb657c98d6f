use Rattle.std.proofs.Common.{◌≡◌, ◌++◌, take}
use Rattle.std.specs.List.{flat_map}
use Rattle.way_plans.specs.PlanTexts.{exclusive_line}
use Rattle.way_plans.proofs.writes.push_all_exclusive.Given as goal

abbrev pub invariant-loop-group : goal.invariant-loop-group
invariant-loop-group l = l.text ≡ l.initial.text ++ flat_map (exclusive_line l.names) (take l.group-index l.groups)
