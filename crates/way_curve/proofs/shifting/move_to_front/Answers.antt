use Rattle.std.proofs.Common.{arith, rules}
use Rattle.way_curve.proofs.Shifted.{IsShift-found, IsShift-last}
use Rattle.way_curve.proofs.shifting.move_to_front.Goals as goal

pub returns-then-passed-line : goal.returns-then-passed-line
returns-then-passed-line c =
    IsShift-found c.args.lines.now c.loop-place.lines c.args.line c.loop-place.place c.loop-place.carried (omega arith) (omega arith) c.loop-place.invariant (search rules)

pub returns : goal.returns
returns c =
    IsShift-last c.args.lines.now c.loop-place.lines c.args.line c.loop-place.place c.loop-place.carried (omega arith) (omega arith) (omega arith) c.loop-place.invariant
