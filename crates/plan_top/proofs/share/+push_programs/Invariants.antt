use Rattle.std.proofs.Common.{length}
use Rattle.plan_top.proofs.share.+push_programs.Given as goal

abbrev pub decreases-push_programs : goal.decreases-push_programs
decreases-push_programs l = length l.wishes.now
