use Rattle.std.proofs.Common.{Some, subst, sym}
use Rattle.call_rim.specs.Outside.{reading_of, writing_of}
use Rattle.resctrl_top.proofs.RimEndings.{Ends-called, complete}
use Rattle.resctrl_top.specs.Endings.{Ends, IsComplete, call_of}
use Rattle.resctrl_top.specs.declared.ended.Ended.{Ended}
use Rattle.top_parts.specs.Forms.{usage_line}
use Rattle.resctrl_top.proofs.calls.step_source.Goals as goal

pub returns-clause-ends : goal.returns-clause-ends
returns-clause-ends g c =
    let source = reading_of g.S.Source.left g.S.Source.faults c.args.source.now c.call.new.source in
    let sink = writing_of g.K.Sink.taken g.K.Sink.held g.K.Sink.faults c.args.sink.now c.call.new.sink in
    let ends = Ends-called c.args.form c.requires.command source sink c.call.result.status c.call.result.outcome (c.call.ensures.ends usage_line) c.call.ensures.leaves in
    subst (λ (e : Ended). Ends (call_of (Some c.args.form) source sink) e.status e.journals) (sym c.with_journals.ensures) ends

pub returns-clause-complete : goal.returns-clause-complete
returns-clause-complete g c =
    let source = reading_of g.S.Source.left g.S.Source.faults c.args.source.now c.call.new.source in
    let sink = writing_of g.K.Sink.taken g.K.Sink.held g.K.Sink.faults c.args.sink.now c.call.new.sink in
    let ends = Ends-called c.args.form c.requires.command source sink c.call.result.status c.call.result.outcome (c.call.ensures.ends usage_line) c.call.ensures.leaves in
    subst (λ (e : Ended). IsComplete (call_of (Some c.args.form) source sink) e.status) (sym c.with_journals.ensures)
    (complete (Some c.args.form) source sink c.call.result.status c.call.result.outcome ends)
