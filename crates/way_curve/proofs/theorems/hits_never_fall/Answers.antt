use Rattle.std.proofs.Common.{[]}
use Rattle.way_curve.proofs.SetHits.{set_hits_after-le}
use Rattle.way_curve.proofs.theorems.hits_never_fall.Goals as goal

pub returns : goal.returns
returns c sets ways more lines le = set_hits_after-le sets ways more [] lines le
