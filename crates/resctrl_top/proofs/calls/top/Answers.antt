use Rattle.std.proofs.Common.{Option, refl, subst}
use Rattle.call_rim.specs.Outside.{reading_of, writing_of}
use Rattle.resctrl_top.specs.Endings.{Ends, call_of}
use Rattle.top_parts.specs.declared.form.Form.{Form}
use Rattle.resctrl_top.proofs.calls.top.Goals as goal

pub returns-in-None-clause-ends : goal.returns-in-None-clause-ends
returns-in-None-clause-ends g c =
    let source = reading_of g.S.Source.left g.S.Source.faults c.args.source.now c.args.source.now in
    let sink = writing_of g.K.Sink.taken g.K.Sink.held g.K.Sink.faults c.args.sink.now c.refuse_words.new.sink in
    subst (λ (form : Option Form). Ends (call_of form source sink) c.refuse_words.result.status c.refuse_words.result.journals) c.in-None.ensures.form (c.refuse_words.ensures.ends source refl refl)
