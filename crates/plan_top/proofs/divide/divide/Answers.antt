use Rattle.call_rim.specs.Endings.{call_of}
use Rattle.call_rim.specs.Outside.{reading_of, writing_of}
use Rattle.std.proofs.Common.{true}
use Rattle.plan_top.proofs.WholeInputs.{Ends-within}
use Rattle.plan_top.proofs.divide.divide.Goals as goal

pub returns-clause-ends : goal.returns-clause-ends
returns-clause-ends g c =
    let source = reading_of g.S.Source.left g.S.Source.faults c.args.source.now c.call.new.source in
    let sink = writing_of g.K.Sink.taken g.K.Sink.held g.K.Sink.faults c.args.sink.now c.call.new.sink in
    λ usage. Ends-within c.args.form (call_of true usage source sink) c.call.result.status c.call.result.outcome (c.call.ensures.ends usage)
