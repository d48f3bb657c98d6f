use Rattle.private_lru.proofs.laws.SliceWindows.{IsIsolated-between}
use Rattle.private_lru.proofs.theorems.slice_isolation.Goals as goal

pub returns : goal.returns
returns c = IsIsolated-between
