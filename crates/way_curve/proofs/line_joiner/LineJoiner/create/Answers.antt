use Rattle.std.proofs.Common.{refl}
use Rattle.way_curve.proofs.JoinSteps.{Joins-nil}
use Rattle.way_curve.proofs.line_joiner.LineJoiner.create.Goals as goal

pub returns-clause-empty : goal.returns-clause-empty
returns-clause-empty c = Joins-nil _ refl c.in_ok-rest.ensures.items
