use Rattle.pair_text.proofs.BoundedScripts.{IsBounded-of}
use Rattle.pair_text.proofs.theorems.scripts_are_bounded.Goals as goal

pub returns-clause-kinds : goal.returns-clause-kinds
returns-clause-kinds c = λ kind text script e. (IsBounded-of kind text script e).has_kind

pub returns-clause-limits : goal.returns-clause-limits
returns-clause-limits c = λ kind text script e. (IsBounded-of kind text script e).limits
