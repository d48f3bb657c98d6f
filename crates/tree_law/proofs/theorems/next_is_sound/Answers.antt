use Rattle.tree_law.proofs.laws.Steps.{next-sound}
use Rattle.tree_law.proofs.theorems.next_is_sound.Goals as goal

pub returns : goal.returns
returns c = next-sound
