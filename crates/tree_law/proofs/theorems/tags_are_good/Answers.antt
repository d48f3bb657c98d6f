use Rattle.tree_law.proofs.laws.Access.{resolve-good}
use Rattle.tree_law.proofs.theorems.tags_are_good.Goals as goal

pub returns : goal.returns
returns c = resolve-good
