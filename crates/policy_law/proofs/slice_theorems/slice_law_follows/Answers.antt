use Rattle.policy_law.proofs.SliceLaw.{IsIsolated-policies}
use Rattle.policy_law.proofs.slice_theorems.slice_law_follows.Goals as goal

pub returns : goal.returns
returns c = IsIsolated-policies
