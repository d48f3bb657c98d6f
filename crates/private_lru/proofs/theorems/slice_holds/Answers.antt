use Rattle.private_lru.proofs.laws.LoadedWays.{HoldsLoaded-between}
use Rattle.private_lru.proofs.theorems.slice_holds.Goals as goal

pub returns : goal.returns
returns c = HoldsLoaded-between
