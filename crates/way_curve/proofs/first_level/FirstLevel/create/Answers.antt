use Rattle.way_curve.proofs.Serving.{Serve-none}
use Rattle.way_curve.proofs.first_level.FirstLevel.create.Goals as goal

pub returns-clause-empty : goal.returns-clause-empty
returns-clause-empty c = record { recent = Serve-none c.args.shape.sets c.in_ok-recent.recent.items c.in_ok-recent.ensures }
