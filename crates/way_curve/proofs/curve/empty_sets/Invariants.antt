use Rattle.std.proofs.Common.{◌≡◌, replicate}
use Rattle.way_curve.specs.Slots.{empty_slots}
use Rattle.way_curve.proofs.curve.empty_sets.Given as goal

abbrev pub invariant-loop : goal.invariant-loop
invariant-loop l = l.recent.items ≡ replicate l.counter empty_slots
