use Rattle.way_curve.proofs.Shifted.{IsPassed}
use Rattle.way_curve.proofs.shifting.move_to_front.Given as goal

abbrev pub invariant-loop-place : goal.invariant-loop-place
invariant-loop-place l = IsPassed l.fn.lines l.lines l.line l.place l.carried
