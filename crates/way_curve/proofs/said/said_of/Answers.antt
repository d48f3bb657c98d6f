use Rattle.way_curve.proofs.FewUses.{length-uses_of_line}
use Rattle.way_curve.proofs.said.said_of.Goals as goal

pub returns-in-Ok-clause-few : goal.returns-in-Ok-clause-few
returns-in-Ok-clause-few c = length-uses_of_line c.args.line.now c.in-Ok.said c.in-Ok.ensures.said c.in-Ok.ensures.in_memory
