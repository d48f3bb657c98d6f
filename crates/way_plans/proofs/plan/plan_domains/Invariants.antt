use Rattle.std.proofs.Common.{◌≡◌, length}
use Rattle.std.specs.Prelude.{All}
use Rattle.way_plans.specs.Planned.{ArePartsFrom}
use Rattle.way_plans.specs.Values.{IsSmall, parts_of}
use Rattle.way_plans.proofs.plan.plan_domains.Given as goal

abbrev pub invariant-loop-domain : goal.invariant-loop-domain
invariant-loop-domain l = record {
  all : length l.plans.items ≡ l.domain;
  each : ArePartsFrom l.script l.journals 0 (parts_of l.plans.items);
  small : All IsSmall l.plans.items;
}
