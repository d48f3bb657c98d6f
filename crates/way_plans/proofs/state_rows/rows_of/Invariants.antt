use Rattle.std.proofs.Common.{◌≤◌, drop, length}
use Rattle.way_plans.specs.Placings.{AreStateRows}
use Rattle.way_plans.proofs.state_rows.rows_of.Given as goal

abbrev pub invariant-loop-first : goal.invariant-loop-first
invariant-loop-first l = (l.first ≤ length l.groups) × (AreStateRows l.least l.runs (drop l.first l.groups) l.rows.items)

abbrev pub decreases-loop-first : goal.decreases-loop-first
decreases-loop-first l = l.first
