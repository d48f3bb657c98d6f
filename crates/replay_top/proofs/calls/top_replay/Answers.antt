use Rattle.std.proofs.Common.{Option, Some, true, subst}
use Rattle.std.specs.Prelude.{is_some}
use Rattle.call_rim.specs.Endings.{Ends, call_of}
use Rattle.call_rim.specs.Outside.{reading_of, writing_of}
use Rattle.replay_top.proofs.Complete.{complete}
use Rattle.replay_top.specs.Endings.{IsComplete}
use Rattle.replay_top.specs.Reports.{refuses, reports}
use Rattle.replay_top.specs.Words.{usage_line}
use Rattle.replay_top.specs.declared.form.ReplayForm.{ReplayForm}
use Rattle.replay_top.proofs.calls.top_replay.Goals as goal

pub returns-in-Some-clause-ends : goal.returns-in-Some-clause-ends
returns-in-Some-clause-ends g c =
    let source = reading_of g.S.Source.left g.S.Source.faults c.args.source.now c.obey.new.source in
    let sink = writing_of g.K.Sink.taken g.K.Sink.held g.K.Sink.faults c.args.sink.now c.obey.new.sink in
    let ended = c.obey.result in
    subst (λ (form : Option ReplayForm). Ends refuses (reports form) (call_of (is_some form) usage_line source sink) ended.status ended.outcome) c.in-Some.ensures c.obey.ensures.ends

pub returns-in-Some-clause-complete : goal.returns-in-Some-clause-complete
returns-in-Some-clause-complete g c =
    let source = reading_of g.S.Source.left g.S.Source.faults c.args.source.now c.obey.new.source in
    let sink = writing_of g.K.Sink.taken g.K.Sink.held g.K.Sink.faults c.args.sink.now c.obey.new.sink in
    let ended = c.obey.result in
    let due = complete c.texts_read_back.ensures.one c.runs_by_clauses.ensures (Some c.in-Some.form) (call_of true usage_line source sink) ended.outcome ended.status c.obey.ensures.ends in
    subst (λ (form : Option ReplayForm). IsComplete (call_of (is_some form) usage_line source sink) ended.status ended.outcome) c.in-Some.ensures due
