use Rattle.std.proofs.Common.{◌≤◌, drop, length}
use Rattle.way_plans.specs.Rows.{AreRows}
use Rattle.way_plans.proofs.table.rows_of.Given as goal

abbrev pub invariant-loop-first : goal.invariant-loop-first
invariant-loop-first l = (l.first ≤ length l.groups) × (AreRows l.free l.least (drop l.first l.groups) l.rows.items)

abbrev pub decreases-loop-first : goal.decreases-loop-first
decreases-loop-first l = l.first
