use Rattle.std.proofs.Common.{◌≡◌}
use Rattle.way_plans.specs.Runs.{runs_below}
use Rattle.way_plans.proofs.runs.runs_of.Given as goal

abbrev pub invariant-loop-way : goal.invariant-loop-way
invariant-loop-way l = l.runs.items ≡ runs_below l.free l.way
