use Rattle.cbm.proofs.Gaps.{has_gaps-missing, Missing-has_gaps}
use Rattle.cbm.proofs.theorems.gaps_are_missing_ways.Goals as goal

pub returns : goal.returns
returns c = λ mask small. (Missing-has_gaps mask, has_gaps-missing mask small)
