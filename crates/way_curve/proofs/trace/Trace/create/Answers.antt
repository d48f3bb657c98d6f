use Rattle.std.proofs.Common.{refl}
use Rattle.way_curve.proofs.Steps.{IsGood-nil}
use Rattle.way_curve.proofs.trace.Trace.create.Goals as goal

pub returns-clause-empty : goal.returns-clause-empty
returns-clause-empty c = IsGood-nil _ _ refl c.in_ok-rest.ensures.items c.in_ok-curves.ensures.empty
