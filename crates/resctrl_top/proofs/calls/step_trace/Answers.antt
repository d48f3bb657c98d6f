use Rattle.std.proofs.Common.{Some, subst, sym}
use Rattle.call_rim.specs.Outside.{writing_of}
use Rattle.resctrl_top.proofs.RimEndings.{Ends-generated, complete}
use Rattle.resctrl_top.specs.Endings.{Ends, IsComplete, call_of}
use Rattle.resctrl_top.specs.declared.ended.Ended.{Ended}
use Rattle.resctrl_top.proofs.calls.step_trace.Goals as goal

pub returns-clause-ends : goal.returns-clause-ends
returns-clause-ends g c =
    let sink = writing_of g.K.Sink.taken g.K.Sink.held g.K.Sink.faults c.args.sink.now c.tell.new.sink in
    λ source same read. subst (λ (e : Ended). Ends (call_of (Some c.args.form) source sink) e.status e.journals) (sym c.with_journals.ensures)
    (Ends-generated c.args.form c.args.n c.requires.command source sink same read c.tell.result.status c.tell.result.outcome c.play_trace.result c.play_trace.ensures c.tell.ensures)

pub returns-clause-complete : goal.returns-clause-complete
returns-clause-complete g c =
    let sink = writing_of g.K.Sink.taken g.K.Sink.held g.K.Sink.faults c.args.sink.now c.tell.new.sink in
    λ source same read. subst (λ (e : Ended). IsComplete (call_of (Some c.args.form) source sink) e.status) (sym c.with_journals.ensures)
    (complete (Some c.args.form) source sink c.tell.result.status c.tell.result.outcome
    (Ends-generated c.args.form c.args.n c.requires.command source sink same read c.tell.result.status c.tell.result.outcome c.play_trace.result c.play_trace.ensures c.tell.ensures))
