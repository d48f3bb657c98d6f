use Rattle.tree_law.proofs.laws.Regions.{region_mask-union}
use Rattle.tree_law.proofs.theorems.regions_agree.Goals as goal

pub returns : goal.returns
returns c = region_mask-union
