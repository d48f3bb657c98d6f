use Rattle.call_rim.specs.Outside.{reading_of, writing_of}
use Rattle.check_parts.specs.declared.form.Form.TheVariants.{Export}
use Rattle.check_parts.specs.declared.form.Play.TheVariants.{Run}
use Rattle.check_top.proofs.RimEndings.{Ends-called}
use Rattle.check_top.proofs.calls.export_run.Goals as goal

pub returns : goal.returns
returns g c =
    let source = reading_of g.S.Source.left g.S.Source.faults c.args.source.now c.call_live.new.source in
    let sink = writing_of g.K.Sink.taken g.K.Sink.held g.K.Sink.faults c.args.sink.now c.call_live.new.sink in
    Ends-called source sink c.call_live.result.status c.call_live.result.outcome c.checked.result c.checked.ensures (Export Run) c.call_live.ensures.ends c.call_live.ensures.leaves
