use Rattle.std.proofs.Common.{refl}
use Rattle.check_top.proofs.theorems.runs_read_back.Goals as goal

pub returns : goal.returns
returns c = λ script run lawful is_run. record { writable = c.runs_are_writable.ensures script run lawful is_run; same = refl }
