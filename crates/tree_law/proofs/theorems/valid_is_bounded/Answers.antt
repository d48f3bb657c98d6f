use Rattle.tree_law.proofs.laws.ValidMasks.{IsValid-checked}
use Rattle.tree_law.proofs.theorems.valid_is_bounded.Goals as goal

pub returns : goal.returns
returns c = record { bounded = λ m mask valid. valid.bounded; checked = λ m mask range small is. IsValid-checked m mask small is }
