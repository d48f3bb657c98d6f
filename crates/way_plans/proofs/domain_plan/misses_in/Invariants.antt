use Rattle.std.proofs.Common.{◌≡◌, ◌^◌, ◌≤◌, take}
use Rattle.std.specs.Prelude.{All}
use Rattle.way_plans.specs.Plans.{misses_in}
use Rattle.way_plans.proofs.domain_plan.misses_in.Given as goal

abbrev pub invariant-loop-group : goal.invariant-loop-group
invariant-loop-group l = record {
  rows : l.rows.items ≡ misses_in l.script l.journals l.domain (take l.group-index l.groups);
  few : All (All (λ n. n ≤ 2 ^ 48)) l.rows.items;
}
