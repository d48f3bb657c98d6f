use Rattle.way_curve.proofs.Totals.{sum-take_add}
use Rattle.way_curve.proofs.distances.add.Goals as goal

pub returns-then-distance-uses-clause-counted : goal.returns-then-distance-uses-clause-counted
returns-then-distance-uses-clause-counted c = λ most le. sum-take_add c.args.uses.now c.args.distance c.args.more most c.if-distance-uses.true le
