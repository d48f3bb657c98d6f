use Rattle.std.proofs.Common.{◌-◌, ◌≤◌, length}
use Rattle.way_plans.specs.Divisions.{AreFree}
use Rattle.way_plans.proofs.row.end_of_run.Given as goal

abbrev pub invariant-loop-way : goal.invariant-loop-way
invariant-loop-way l = (l.first ≤ l.way) × (l.way ≤ length l.free) × (AreFree l.free l.first (l.way - l.first))

abbrev pub decreases-loop-way : goal.decreases-loop-way
decreases-loop-way l = length l.free - l.way
