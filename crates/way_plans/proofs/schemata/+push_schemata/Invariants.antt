use Rattle.std.proofs.Common.{length}
use Rattle.way_plans.proofs.schemata.+push_schemata.Given as goal

abbrev pub decreases-push_schemata : goal.decreases-push_schemata
decreases-push_schemata l = length l.groups.now
