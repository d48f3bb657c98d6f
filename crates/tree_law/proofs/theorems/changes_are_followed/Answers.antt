use Rattle.tree_law.proofs.laws.Changes.{resolve-next}
use Rattle.tree_law.proofs.theorems.changes_are_followed.Goals as goal

pub returns : goal.returns
returns c = resolve-next
