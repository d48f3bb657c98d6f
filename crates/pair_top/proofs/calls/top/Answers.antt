use Rattle.std.proofs.Common.{subst, sym}
use Rattle.call_rim.specs.Endings.{IsComplete, call_of}
use Rattle.call_rim.specs.Outside.{reading_of, writing_of}
use Rattle.call_rim.specs.declared.status.Status.{Status}
use Rattle.pair_top.proofs.Promises.{promised-read}
use Rattle.pair_top.specs.Forms.{form_of, is_valid, usage_line}
use Rattle.pair_top.specs.Refusals.{refuses}
use Rattle.pair_top.proofs.calls.top.Goals as goal

pub returns-in-Some-clause-complete : goal.returns-in-Some-clause-complete
returns-in-Some-clause-complete g c =
    let source = reading_of g.S.Source.left g.S.Source.faults c.args.source.now c.call.new.source in
    let sink = writing_of g.K.Sink.taken g.K.Sink.held g.K.Sink.faults c.args.sink.now c.call.new.sink in
    let words = form_of c.args.words.now in
    let j = g.J.PairJournals in
    let promised = promised-read j.kind j.run j.isolated j.listed j.report_of source sink words c.in-Some.form c.call.result.status c.call.result.outcome c.in-Some.ensures (c.call.ensures.ends (usage_line j.kind)) in
    subst (λ (s : Status). IsComplete (refuses j.kind) (call_of (is_valid words) (usage_line j.kind) source sink) s) (sym c.pair_ended.ensures.status) promised.complete
