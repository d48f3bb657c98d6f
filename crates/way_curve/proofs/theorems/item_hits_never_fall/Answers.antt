use Rattle.std.proofs.Common.{[]}
use Rattle.way_curve.proofs.MoreWays.{item_hits_after-le}
use Rattle.way_curve.proofs.theorems.item_hits_never_fall.Goals as goal

pub returns : goal.returns
returns c = λ sets ways more items le. item_hits_after-le sets ways more [] items le
