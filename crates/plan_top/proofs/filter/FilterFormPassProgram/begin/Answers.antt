use Rattle.way_curve.proofs.laws.FilteredTexts.{IsFilteredSoFar-nil}
use Rattle.plan_top.proofs.filter.FilterFormPassProgram.begin.Goals as goal

pub returns-clause-due : goal.returns-clause-due
returns-clause-due c = IsFilteredSoFar-nil c.args.self.now
