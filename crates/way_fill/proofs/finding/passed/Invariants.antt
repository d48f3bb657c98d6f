use Rattle.std.proofs.Common.{◌≡◌, ℕ, ◌<◌, ◌≤◌, ◌-◌, length, slice_index}
use Rattle.way_fill.proofs.finding.passed.Given as goal

abbrev pub invariant-loop-way : goal.invariant-loop-way
invariant-loop-way l = record {
  within : l.way ≤ length l.lines;
  none : (w : ℕ) → w < l.way → slice_index l.lines w ≡ l.line → ⊥;
}

abbrev pub decreases-loop-way : goal.decreases-loop-way
decreases-loop-way l = length l.lines - l.way
