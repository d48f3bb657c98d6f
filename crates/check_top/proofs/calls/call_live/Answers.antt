use Rattle.std.proofs.Common.{refl, true}
use Rattle.call_rim.proofs.laws.Ends.{Ends-made, IsMade-within, LeavesBy-rest}
use Rattle.call_rim.proofs.laws.InputBytes.{LeavesRest-of}
use Rattle.call_rim.specs.Endings as rim
use Rattle.call_rim.specs.Outside.{reading_of, writing_of}
use Rattle.call_rim.specs.Within.{RefusesWithin, ReportsWithin}
use Rattle.check_parts.specs.Forms.{usage_line}
use Rattle.check_parts.specs.declared.form.Form.TheVariants.{Export}
use Rattle.check_parts.specs.declared.form.Play.TheVariants.{Run}
use Rattle.check_top.specs.Endings.{IsExported, Refuses}
use Rattle.script_ops.specs.declared.limits.TheConstants.{MOST_SCRIPT_BYTES}
use Rattle.check_top.proofs.calls.call_live.Goals as goal

pub returns-in-Ok-clause-ends : goal.returns-in-Ok-clause-ends
returns-in-Ok-clause-ends g c =
    let source = reading_of g.S.Source.left g.S.Source.faults c.args.source.now c.read_all.new.source in
    let sink = writing_of g.K.Sink.taken g.K.Sink.held g.K.Sink.faults c.args.sink.now c.tell.new.sink in
    let refuses = Refuses (Export Run) in
    let input = c.in-Ok.ensures.bytes in
    let rest = LeavesRest-of MOST_SCRIPT_BYTES source.left source.left_now c.in-Ok.bytes.items c.in-Ok.ensures.taken input in
    let made = IsMade-within refuses (IsExported Run) MOST_SCRIPT_BYTES source.left source.left_now c.in-Ok.bytes.items c.run_bytes.result input rest c.run_bytes.ensures in
    Ends-made (RefusesWithin MOST_SCRIPT_BYTES refuses) (ReportsWithin MOST_SCRIPT_BYTES (IsExported Run)) (rim.call_of true usage_line source sink) c.tell.result.status c.tell.result.outcome c.run_bytes.result refl c.in-Ok.ensures.faults made
    c.tell.ensures

pub returns-in-Ok-clause-leaves : goal.returns-in-Ok-clause-leaves
returns-in-Ok-clause-leaves g c =
    let source = reading_of g.S.Source.left g.S.Source.faults c.args.source.now c.read_all.new.source in
    LeavesBy-rest MOST_SCRIPT_BYTES source c.tell.result.status (LeavesRest-of MOST_SCRIPT_BYTES source.left source.left_now c.in-Ok.bytes.items c.in-Ok.ensures.taken c.in-Ok.ensures.bytes)
