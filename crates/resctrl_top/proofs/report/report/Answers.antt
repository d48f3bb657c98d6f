use Rattle.std.proofs.Common.{◌≡◌, true, false}
use Rattle.resctrl_top.proofs.OutputHalves.{IfOk-map, IsOutput-with, IsOutput-without}
use Rattle.resctrl_top.proofs.report.report.Goals as goal

pub returns-then-asked : goal.returns-then-asked
returns-then-asked c =
    let script = c.args.script.now in
    let run = c.args.journals.now in
    let flags = c.args.flags in
    let asked : flags.windows ≡ true = c.if-asked.true in
    IfOk-map _ _ c.with_windows.result (λ text w. IsOutput-with script run flags text.items asked w) c.with_windows.ensures

pub returns-else-asked : goal.returns-else-asked
returns-else-asked c =
    let script = c.args.script.now in
    let run = c.args.journals.now in
    let flags = c.args.flags in
    let not_asked : flags.windows ≡ false = c.if-asked.false in
    IfOk-map _ _ c.with_given.result (λ text is. IsOutput-without script run flags text.items not_asked is) c.with_given.ensures
