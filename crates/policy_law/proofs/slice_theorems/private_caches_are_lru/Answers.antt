use Rattle.policy_law.proofs.PrivateSets.{private_hit-lru}
use Rattle.policy_law.proofs.slice_theorems.private_caches_are_lru.Goals as goal

pub returns : goal.returns
returns c = private_hit-lru
