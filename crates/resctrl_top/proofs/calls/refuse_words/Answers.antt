use Rattle.std.proofs.Common.{None, subst, sym}
use Rattle.call_rim.specs.Outside.{writing_of}
use Rattle.resctrl_top.proofs.RimEndings.{Ends-usage, complete}
use Rattle.resctrl_top.specs.Endings.{Ends, IsComplete, call_of}
use Rattle.resctrl_top.specs.declared.ended.Ended.{Ended}
use Rattle.resctrl_top.proofs.calls.refuse_words.Goals as goal

pub returns-clause-ends : goal.returns-clause-ends
returns-clause-ends g c =
    let sink = writing_of g.K.Sink.taken g.K.Sink.held g.K.Sink.faults c.args.sink.now c.tell_usage.new.sink in
    λ source same read. subst (λ (e : Ended). Ends (call_of None source sink) e.status e.journals) (sym c.with_journals.ensures)
    (Ends-usage source sink c.tell_usage.result.status c.tell_usage.result.outcome same read c.tell_usage.ensures)

pub returns-clause-complete : goal.returns-clause-complete
returns-clause-complete g c =
    let sink = writing_of g.K.Sink.taken g.K.Sink.held g.K.Sink.faults c.args.sink.now c.tell_usage.new.sink in
    λ source same read. subst (λ (e : Ended). IsComplete (call_of None source sink) e.status) (sym c.with_journals.ensures)
    (complete None source sink c.tell_usage.result.status c.tell_usage.result.outcome (Ends-usage source sink c.tell_usage.result.status c.tell_usage.result.outcome same read c.tell_usage.ensures))
