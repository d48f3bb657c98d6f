use Rattle.std.proofs.Common.{ℕ, List, subst}
use Rattle.check_parts.specs.Judging.{ReadsVerdict}
use Rattle.check_parts.proofs.judging.verdict_after.Goals as goal

pub returns-in-Ok : goal.returns-in-Ok
returns-in-Ok c = subst (λ (bytes : List ℕ). ReadsVerdict bytes c.verdict_on.result) c.deref.ensures.value (c.verdict_on.ensures c.deref.result.now c.in-Ok.ensures)
