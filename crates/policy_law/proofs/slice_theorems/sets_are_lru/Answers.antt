use Rattle.policy_law.proofs.Windows.{HitsAsLru-between}
use Rattle.policy_law.proofs.slice_theorems.sets_are_lru.Goals as goal

pub returns : goal.returns
returns c = HitsAsLru-between
