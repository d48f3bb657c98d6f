use Rattle.journal_text.proofs.BadLines.{IsBadLine-same}
use Rattle.journal_text.proofs.theorems.bad_lines_are_one.Goals as goal

pub returns : goal.returns
returns c = IsBadLine-same
