use Rattle.policy_law.proofs.Groups.{HitsAsAlone-between}
use Rattle.policy_law.proofs.slice_theorems.slices_isolate.Goals as goal

pub returns : goal.returns
returns c = HitsAsAlone-between
