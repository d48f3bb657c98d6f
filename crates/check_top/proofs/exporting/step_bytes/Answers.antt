use Rattle.std.proofs.Common.{ℕ, List, subst}
use Rattle.check_parts.specs.BadInputs.{HasScript, IsBad}
use Rattle.check_parts.specs.declared.form.Form.TheVariants.{Export}
use Rattle.check_top.proofs.MadeOf.{Performs-bad}
use Rattle.check_top.specs.Endings.{IsExported}
use Rattle.check_top.proofs.exporting.step_bytes.Goals as goal

pub returns-in-Ok : goal.returns-in-Ok
returns-in-Ok c = λ play. c.step_script.ensures play (subst (λ (bytes : List ℕ). HasScript (Export play) bytes c.in-Ok.script) c.deref.ensures.value (c.in-Ok.ensures play))

pub returns-in-Err-Bad : goal.returns-in-Err-Bad
returns-in-Err-Bad c = λ play.
    let read = rw c.in-Err-Bad.field-0-is at c.in-Err-Bad.ensures play in
    Performs-bad (Export play) (IsExported play) c.args.bytes.items c.in-Err-Bad.bad c.refuse.result (subst (λ (bytes : List ℕ). IsBad (Export play) bytes c.in-Err-Bad.bad) c.deref.ensures.value read) c.refuse.ensures
