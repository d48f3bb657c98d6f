use Rattle.std.proofs.Common.{ℕ, ◌<◌}
use Rattle.way_fill.specs.Sets.{HoldsLine}
use Rattle.way_fill.proofs.finding.find_in_turn.Given as goal

abbrev pub invariant-loop-way : goal.invariant-loop-way
invariant-loop-way l = (w : ℕ) → w < l.way → HoldsLine l.lines l.valid l.line w → ⊥
