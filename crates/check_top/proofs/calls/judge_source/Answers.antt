use Rattle.call_rim.specs.Outside.{reading_of, writing_of}
use Rattle.check_parts.specs.Forms.{usage_line}
use Rattle.check_top.proofs.FoundJournals.{EndsWith-judged}
use Rattle.check_top.proofs.calls.judge_source.Goals as goal

pub returns : goal.returns
returns g c =
    let source = reading_of g.S.Source.left g.S.Source.faults c.args.source.now c.call_early.new.source in
    let sink = writing_of g.K.Sink.taken g.K.Sink.held g.K.Sink.faults c.args.sink.now c.call_early.new.sink in
    EndsWith-judged source sink c.call_early.result.status c.call_early.result.outcome c.judged.result (c.call_early.ensures.ends usage_line) c.call_early.ensures.leaves c.judged.ensures
