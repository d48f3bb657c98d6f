use Rattle.std.proofs.Common.{◌≡◌, ap, refl, subst, sym, true}
use Rattle.call_rim.proofs.laws.Ends.{Ends-made, IsMade-within, LeavesBy-rest}
use Rattle.call_rim.proofs.laws.InputBytes.{LeavesRest-of}
use Rattle.call_rim.specs.Endings as rim
use Rattle.call_rim.specs.Outside.{reading_of, writing_of}
use Rattle.call_rim.specs.Within.{RefusesWithin, ReportsWithin}
use Rattle.resctrl_top.specs.Endings.{IsPlayed}
use Rattle.resctrl_top.specs.Performances.{RefusesBytes}
use Rattle.script_ops.specs.declared.limits.TheConstants.{MOST_SCRIPT_BYTES}
use Rattle.top_parts.specs.Forms.{usage_line}
use Rattle.top_parts.specs.declared.command.Command.{Command}
use Rattle.top_parts.specs.declared.command.Command.TheVariants.{Run}
use Rattle.top_parts.specs.declared.form.Form.{Form}
use Rattle.resctrl_top.proofs.live.call_live.Goals as goal

pub returns-in-Ok-clause-ends : goal.returns-in-Ok-clause-ends
returns-in-Ok-clause-ends g c =
    let source = reading_of g.S.Source.left g.S.Source.faults c.args.source.now c.read_all.new.source in
    let sink = writing_of g.K.Sink.taken g.K.Sink.held g.K.Sink.faults c.args.sink.now c.tell.new.sink in
    let run : Form = record { command = Run; flags = c.args.form.flags } in
    let same : run ≡ c.args.form = ap (λ (command : Command). record { command = command; flags = c.args.form.flags }) (sym c.requires.command) in
    let input = c.in-Ok.ensures.bytes in
    let rest = LeavesRest-of MOST_SCRIPT_BYTES source.left source.left_now c.in-Ok.bytes.items c.in-Ok.ensures.taken input in
    let made = IsMade-within RefusesBytes (IsPlayed run) MOST_SCRIPT_BYTES source.left source.left_now c.in-Ok.bytes.items c.run_bytes.result input rest c.run_bytes.ensures in
    let ends = Ends-made (RefusesWithin MOST_SCRIPT_BYTES RefusesBytes) (ReportsWithin MOST_SCRIPT_BYTES (IsPlayed run)) (rim.call_of true usage_line source sink) c.tell.result.status c.tell.result.outcome c.run_bytes.result refl c.in-Ok.ensures.faults made c.tell.ensures in
    subst (λ (form : Form). rim.Ends (RefusesWithin MOST_SCRIPT_BYTES RefusesBytes) (ReportsWithin MOST_SCRIPT_BYTES (IsPlayed form)) (rim.call_of true usage_line source sink) c.tell.result.status c.tell.result.outcome) same ends

pub returns-in-Ok-clause-leaves : goal.returns-in-Ok-clause-leaves
returns-in-Ok-clause-leaves g c =
    let source = reading_of g.S.Source.left g.S.Source.faults c.args.source.now c.read_all.new.source in
    LeavesBy-rest MOST_SCRIPT_BYTES source c.tell.result.status (LeavesRest-of MOST_SCRIPT_BYTES source.left source.left_now c.in-Ok.bytes.items c.in-Ok.ensures.taken c.in-Ok.ensures.bytes)
