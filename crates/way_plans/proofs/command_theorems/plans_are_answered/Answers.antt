use Rattle.way_plans.proofs.AnsweredPlans.{plans-answered, plans-made}
use Rattle.way_plans.proofs.command_theorems.plans_are_answered.Goals as goal

pub returns-clause-answered : goal.returns-clause-answered
returns-clause-answered c = plans-answered c.reads_back.ensures

pub returns-clause-made : goal.returns-clause-made
returns-clause-made c = plans-made c.reads_back.ensures
