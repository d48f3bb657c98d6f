use Rattle.std.proofs.Common.{length}
use Rattle.way_plans.proofs.masks.+push_masks.Given as goal

abbrev pub decreases-push_masks : goal.decreases-push_masks
decreases-push_masks l = length l.plans.now
