use Rattle.std.proofs.Common.{◌≡◌, ℕ, ◌≤◌, length}
use Rattle.way_plans.specs.Rows.{IsBestFrom, at}
use Rattle.way_plans.proofs.row.row_of.Given as goal

abbrev pub invariant-loop-way : goal.invariant-loop-way
invariant-loop-way l = (l.way ≤ length l.free) × (length l.row ≡ 33) × ((from : ℕ) → l.way ≤ from → IsBestFrom l.free l.least l.group l.next from (at l.row from))

abbrev pub decreases-loop-way : goal.decreases-loop-way
decreases-loop-way l = l.way
