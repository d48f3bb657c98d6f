use Rattle.std.proofs.Common.{◌≤◌, drop, length}
use Rattle.share_plans.specs.Rows.{AreRows}
use Rattle.share_plans.proofs.table.rows_of.Given as goal

abbrev pub invariant-loop-first : goal.invariant-loop-first
invariant-loop-first l = (l.first ≤ length l.demands) × (AreRows l.goal (drop l.first l.demands) l.rows.items)

abbrev pub decreases-loop-first : goal.decreases-loop-first
decreases-loop-first l = l.first
