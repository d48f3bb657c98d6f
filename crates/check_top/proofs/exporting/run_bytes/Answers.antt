use Rattle.std.proofs.Common.{◌≤◌, ℕ, List, arith, length, subst}
use Rattle.std.proofs.lemmas.Grind.{common_steps}
use Rattle.check_parts.specs.BadInputs.{HasScript, IsBad}
use Rattle.check_parts.specs.declared.form.Form.TheVariants.{Export}
use Rattle.check_parts.specs.declared.form.Play.TheVariants.{Run}
use Rattle.check_top.proofs.MadeOf.{Performs-bad, Performs-within}
use Rattle.check_top.specs.Endings.{IsExported, Refuses}
use Rattle.script_ops.specs.declared.limits.TheConstants.{MOST_SCRIPT_BYTES}
use Rattle.check_top.proofs.exporting.run_bytes.Goals as goal

pub returns-in-Ok : goal.returns-in-Ok
returns-in-Ok g c =
    let bytes = c.args.bytes.items in
    let few : length bytes ≤ MOST_SCRIPT_BYTES = grind (arith, common_steps) in
    let has = subst (λ (b : List ℕ). HasScript (Export Run) b c.in-Ok.script) c.deref.ensures.value (c.in-Ok.ensures Run) in
    Performs-within MOST_SCRIPT_BYTES (Refuses (Export Run)) (IsExported Run) bytes c.run_script.result few (c.run_script.ensures has)

pub returns-in-Err-Bad : goal.returns-in-Err-Bad
returns-in-Err-Bad g c =
    let bytes = c.args.bytes.items in
    let bad = c.in-Err-Bad.bad in
    let few : length bytes ≤ MOST_SCRIPT_BYTES = grind (arith, common_steps) in
    let read = rw c.in-Err-Bad.field-0-is at c.in-Err-Bad.ensures Run in
    let is_bad = subst (λ (b : List ℕ). IsBad (Export Run) b bad) c.deref.ensures.value read in
    Performs-within MOST_SCRIPT_BYTES (Refuses (Export Run)) (IsExported Run) bytes c.refuse-in-Err-Bad.result few (Performs-bad (Export Run) (IsExported Run) bytes bad c.refuse-in-Err-Bad.result is_bad c.refuse-in-Err-Bad.ensures)
