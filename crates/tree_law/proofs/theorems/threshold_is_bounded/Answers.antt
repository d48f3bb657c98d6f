use Rattle.tree_law.proofs.theorems.threshold_is_bounded.Goals as goal

pub returns : goal.returns
returns c = λ m s sound. sound.threshold
