use Rattle.tree_law.proofs.laws.Opening.{opening-sound}
use Rattle.tree_law.proofs.theorems.opening_is_sound.Goals as goal

pub returns : goal.returns
returns c = opening-sound
