use Rattle.std.proofs.Common.{◌≡◌, ◌≤◌, Err, List, length, ℕ, arith, subst, sym}
use Rattle.top_parts.specs.Meaning.{meaning}
use Rattle.std.proofs.lemmas.Grind.{common_steps}
use Rattle.call_rim.specs.Performing.{Performs}
use Rattle.call_rim.specs.Within.{RefusesWithin, ReportsWithin}
use Rattle.resctrl_top.proofs.Performed.{Performs-played, Performs-within}
use Rattle.resctrl_top.specs.Endings.{IsPlayed}
use Rattle.resctrl_top.specs.Performances.{RefusesBytes}
use Rattle.script_ops.specs.declared.limits.TheConstants.{MOST_SCRIPT_BYTES}
use Rattle.top_parts.specs.declared.command.Command.TheVariants.{Run}
use Rattle.top_parts.specs.declared.form.Form.{Form}
use Rattle.resctrl_top.proofs.playing.run_bytes.Goals as goal

pub returns-then-len-gt-MOST_SCRIPT_BYTES : goal.returns-then-len-gt-MOST_SCRIPT_BYTES
returns-then-len-gt-MOST_SCRIPT_BYTES g c =
    let form : Form = record { command = Run; flags = c.args.flags } in
    subst (λ (bytes : List ℕ). Performs (RefusesWithin MOST_SCRIPT_BYTES RefusesBytes) (ReportsWithin MOST_SCRIPT_BYTES (IsPlayed form)) bytes c.refuse_size.result)
    c.deref.ensures.value (c.refuse_size.ensures form)

pub returns-in-Ok : goal.returns-in-Ok
returns-in-Ok g c =
    let bytes = c.args.bytes.items in
    let form : Form = record { command = Run; flags = c.args.flags } in
    let few : length bytes ≤ MOST_SCRIPT_BYTES = grind (arith, common_steps) in
    Performs-within form bytes c.play_live.result few (Performs-played form bytes c.play_live.result (c.play_live.ensures bytes c.in-Ok.ensures))

pub returns-in-Err-Bad : goal.returns-in-Err-Bad
returns-in-Err-Bad g c =
    let bytes = c.args.bytes.items in
    let form : Form = record { command = Run; flags = c.args.flags } in
    let few : length bytes ≤ MOST_SCRIPT_BYTES = grind (arith, common_steps) in
    let no_script = rw c.in-Err-Bad.field-0-is at c.in-Err-Bad.ensures in
    Performs-within form bytes c.refuse.result few (c.refuse.ensures form bytes (subst (λ r. meaning bytes ≡ Err r) (sym c.in-Err-Bad.refusal-is) no_script))
