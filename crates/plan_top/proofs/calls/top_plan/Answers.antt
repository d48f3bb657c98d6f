use Rattle.std.proofs.Common.{ℕ, List, Option, None, refl, subst}
use Rattle.call_rim.specs.Endings.{Says}
use Rattle.call_rim.specs.Outside.{reading_of, writing_of}
use Rattle.call_rim.specs.declared.status.Status.TheVariants.{Usage}
use Rattle.plan_top.specs.Forms.{usage_line}
use Rattle.plan_top.specs.declared.form.Form.{Form}
use Rattle.plan_top.proofs.Promises.{IsPromised, promised-curve, promised-divide, promised-filter, promised-share, promised-usage}
use Rattle.plan_top.proofs.calls.top_plan.Goals as goal

pub returns-in-Some-Curve-clause-ends : goal.returns-in-Some-Curve-clause-ends
returns-in-Some-Curve-clause-ends g c =
    let source = reading_of g.S.Source.left g.S.Source.faults c.args.source.now c.stream.new.source in
    let sink = writing_of g.K.Sink.taken g.K.Sink.held g.K.Sink.faults c.args.sink.now c.stream.new.sink in
    let promised = subst (λ (form : Option Form). IsPromised source sink c.stream.result.status c.stream.result.outcome form) (rw c.in-Some-Curve.field-0-is at c.in-Some-Curve.ensures)
    (promised-curve source sink c.stream.result.status c.stream.result.outcome _ (c.stream.ensures.ends usage_line) c.stream.ensures.so_far) in
    promised.ends

pub returns-in-Some-Curve-clause-complete : goal.returns-in-Some-Curve-clause-complete
returns-in-Some-Curve-clause-complete g c =
    let source = reading_of g.S.Source.left g.S.Source.faults c.args.source.now c.stream.new.source in
    let sink = writing_of g.K.Sink.taken g.K.Sink.held g.K.Sink.faults c.args.sink.now c.stream.new.sink in
    let promised = subst (λ (form : Option Form). IsPromised source sink c.stream.result.status c.stream.result.outcome form) (rw c.in-Some-Curve.field-0-is at c.in-Some-Curve.ensures)
    (promised-curve source sink c.stream.result.status c.stream.result.outcome _ (c.stream.ensures.ends usage_line) c.stream.ensures.so_far) in
    promised.complete

pub returns-in-Some-Curve-clause-leaves : goal.returns-in-Some-Curve-clause-leaves
returns-in-Some-Curve-clause-leaves g c =
    let source = reading_of g.S.Source.left g.S.Source.faults c.args.source.now c.stream.new.source in
    let sink = writing_of g.K.Sink.taken g.K.Sink.held g.K.Sink.faults c.args.sink.now c.stream.new.sink in
    let promised = subst (λ (form : Option Form). IsPromised source sink c.stream.result.status c.stream.result.outcome form) (rw c.in-Some-Curve.field-0-is at c.in-Some-Curve.ensures)
    (promised-curve source sink c.stream.result.status c.stream.result.outcome _ (c.stream.ensures.ends usage_line) c.stream.ensures.so_far) in
    promised.leaves

pub returns-in-Some-Curve-clause-fails : goal.returns-in-Some-Curve-clause-fails
returns-in-Some-Curve-clause-fails g c =
    let source = reading_of g.S.Source.left g.S.Source.faults c.args.source.now c.stream.new.source in
    let sink = writing_of g.K.Sink.taken g.K.Sink.held g.K.Sink.faults c.args.sink.now c.stream.new.sink in
    let promised = subst (λ (form : Option Form). IsPromised source sink c.stream.result.status c.stream.result.outcome form) (rw c.in-Some-Curve.field-0-is at c.in-Some-Curve.ensures)
    (promised-curve source sink c.stream.result.status c.stream.result.outcome _ (c.stream.ensures.ends usage_line) c.stream.ensures.so_far) in
    promised.fails

pub returns-in-Some-Divide-clause-ends : goal.returns-in-Some-Divide-clause-ends
returns-in-Some-Divide-clause-ends g c =
    let source = reading_of g.S.Source.left g.S.Source.faults c.args.source.now c.divide.new.source in
    let sink = writing_of g.K.Sink.taken g.K.Sink.held g.K.Sink.faults c.args.sink.now c.divide.new.sink in
    let promised = subst (λ (form : Option Form). IsPromised source sink c.divide.result.status c.divide.result.outcome form) (rw c.in-Some-Divide.field-0-is at c.in-Some-Divide.ensures)
    (promised-divide source sink c.divide.result.status c.divide.result.outcome _ (c.divide.ensures.ends usage_line) c.divide.ensures.leaves) in
    promised.ends

pub returns-in-Some-Divide-clause-complete : goal.returns-in-Some-Divide-clause-complete
returns-in-Some-Divide-clause-complete g c =
    let source = reading_of g.S.Source.left g.S.Source.faults c.args.source.now c.divide.new.source in
    let sink = writing_of g.K.Sink.taken g.K.Sink.held g.K.Sink.faults c.args.sink.now c.divide.new.sink in
    let promised = subst (λ (form : Option Form). IsPromised source sink c.divide.result.status c.divide.result.outcome form) (rw c.in-Some-Divide.field-0-is at c.in-Some-Divide.ensures)
    (promised-divide source sink c.divide.result.status c.divide.result.outcome _ (c.divide.ensures.ends usage_line) c.divide.ensures.leaves) in
    promised.complete

pub returns-in-Some-Divide-clause-leaves : goal.returns-in-Some-Divide-clause-leaves
returns-in-Some-Divide-clause-leaves g c =
    let source = reading_of g.S.Source.left g.S.Source.faults c.args.source.now c.divide.new.source in
    let sink = writing_of g.K.Sink.taken g.K.Sink.held g.K.Sink.faults c.args.sink.now c.divide.new.sink in
    let promised = subst (λ (form : Option Form). IsPromised source sink c.divide.result.status c.divide.result.outcome form) (rw c.in-Some-Divide.field-0-is at c.in-Some-Divide.ensures)
    (promised-divide source sink c.divide.result.status c.divide.result.outcome _ (c.divide.ensures.ends usage_line) c.divide.ensures.leaves) in
    promised.leaves

pub returns-in-Some-Divide-clause-fails : goal.returns-in-Some-Divide-clause-fails
returns-in-Some-Divide-clause-fails g c =
    let source = reading_of g.S.Source.left g.S.Source.faults c.args.source.now c.divide.new.source in
    let sink = writing_of g.K.Sink.taken g.K.Sink.held g.K.Sink.faults c.args.sink.now c.divide.new.sink in
    let promised = subst (λ (form : Option Form). IsPromised source sink c.divide.result.status c.divide.result.outcome form) (rw c.in-Some-Divide.field-0-is at c.in-Some-Divide.ensures)
    (promised-divide source sink c.divide.result.status c.divide.result.outcome _ (c.divide.ensures.ends usage_line) c.divide.ensures.leaves) in
    promised.fails

pub returns-in-Some-Share-clause-ends : goal.returns-in-Some-Share-clause-ends
returns-in-Some-Share-clause-ends g c =
    let source = reading_of g.S.Source.left g.S.Source.faults c.args.source.now c.stream-in-Some-Share.new.source in
    let sink = writing_of g.K.Sink.taken g.K.Sink.held g.K.Sink.faults c.args.sink.now c.stream-in-Some-Share.new.sink in
    let promised = subst (λ (form : Option Form). IsPromised source sink c.stream-in-Some-Share.result.status c.stream-in-Some-Share.result.outcome form) (rw c.in-Some-Share.field-0-is at c.in-Some-Share.ensures)
    (promised-share source sink c.stream-in-Some-Share.result.status c.stream-in-Some-Share.result.outcome _ (c.stream-in-Some-Share.ensures.ends usage_line) c.stream-in-Some-Share.ensures.so_far) in
    promised.ends

pub returns-in-Some-Share-clause-complete : goal.returns-in-Some-Share-clause-complete
returns-in-Some-Share-clause-complete g c =
    let source = reading_of g.S.Source.left g.S.Source.faults c.args.source.now c.stream-in-Some-Share.new.source in
    let sink = writing_of g.K.Sink.taken g.K.Sink.held g.K.Sink.faults c.args.sink.now c.stream-in-Some-Share.new.sink in
    let promised = subst (λ (form : Option Form). IsPromised source sink c.stream-in-Some-Share.result.status c.stream-in-Some-Share.result.outcome form) (rw c.in-Some-Share.field-0-is at c.in-Some-Share.ensures)
    (promised-share source sink c.stream-in-Some-Share.result.status c.stream-in-Some-Share.result.outcome _ (c.stream-in-Some-Share.ensures.ends usage_line) c.stream-in-Some-Share.ensures.so_far) in
    promised.complete

pub returns-in-Some-Share-clause-leaves : goal.returns-in-Some-Share-clause-leaves
returns-in-Some-Share-clause-leaves g c =
    let source = reading_of g.S.Source.left g.S.Source.faults c.args.source.now c.stream-in-Some-Share.new.source in
    let sink = writing_of g.K.Sink.taken g.K.Sink.held g.K.Sink.faults c.args.sink.now c.stream-in-Some-Share.new.sink in
    let promised = subst (λ (form : Option Form). IsPromised source sink c.stream-in-Some-Share.result.status c.stream-in-Some-Share.result.outcome form) (rw c.in-Some-Share.field-0-is at c.in-Some-Share.ensures)
    (promised-share source sink c.stream-in-Some-Share.result.status c.stream-in-Some-Share.result.outcome _ (c.stream-in-Some-Share.ensures.ends usage_line) c.stream-in-Some-Share.ensures.so_far) in
    promised.leaves

pub returns-in-Some-Share-clause-fails : goal.returns-in-Some-Share-clause-fails
returns-in-Some-Share-clause-fails g c =
    let source = reading_of g.S.Source.left g.S.Source.faults c.args.source.now c.stream-in-Some-Share.new.source in
    let sink = writing_of g.K.Sink.taken g.K.Sink.held g.K.Sink.faults c.args.sink.now c.stream-in-Some-Share.new.sink in
    let promised = subst (λ (form : Option Form). IsPromised source sink c.stream-in-Some-Share.result.status c.stream-in-Some-Share.result.outcome form) (rw c.in-Some-Share.field-0-is at c.in-Some-Share.ensures)
    (promised-share source sink c.stream-in-Some-Share.result.status c.stream-in-Some-Share.result.outcome _ (c.stream-in-Some-Share.ensures.ends usage_line) c.stream-in-Some-Share.ensures.so_far) in
    promised.fails

pub returns-in-Some-Filter-clause-ends : goal.returns-in-Some-Filter-clause-ends
returns-in-Some-Filter-clause-ends g c =
    let source = reading_of g.S.Source.left g.S.Source.faults c.args.source.now c.pass.new.source in
    let sink = writing_of g.K.Sink.taken g.K.Sink.held g.K.Sink.faults c.args.sink.now c.pass.new.sink in
    let promised = subst (λ (form : Option Form). IsPromised source sink c.pass.result.status c.pass.result.outcome form) (rw c.in-Some-Filter.field-0-is at c.in-Some-Filter.ensures)
    (promised-filter source sink c.pass.result.status c.pass.result.outcome _ c.pass.ensures.ends c.pass.ensures.none) in
    promised.ends

pub returns-in-Some-Filter-clause-complete : goal.returns-in-Some-Filter-clause-complete
returns-in-Some-Filter-clause-complete g c =
    let source = reading_of g.S.Source.left g.S.Source.faults c.args.source.now c.pass.new.source in
    let sink = writing_of g.K.Sink.taken g.K.Sink.held g.K.Sink.faults c.args.sink.now c.pass.new.sink in
    let promised = subst (λ (form : Option Form). IsPromised source sink c.pass.result.status c.pass.result.outcome form) (rw c.in-Some-Filter.field-0-is at c.in-Some-Filter.ensures)
    (promised-filter source sink c.pass.result.status c.pass.result.outcome _ c.pass.ensures.ends c.pass.ensures.none) in
    promised.complete

pub returns-in-Some-Filter-clause-leaves : goal.returns-in-Some-Filter-clause-leaves
returns-in-Some-Filter-clause-leaves g c =
    let source = reading_of g.S.Source.left g.S.Source.faults c.args.source.now c.pass.new.source in
    let sink = writing_of g.K.Sink.taken g.K.Sink.held g.K.Sink.faults c.args.sink.now c.pass.new.sink in
    let promised = subst (λ (form : Option Form). IsPromised source sink c.pass.result.status c.pass.result.outcome form) (rw c.in-Some-Filter.field-0-is at c.in-Some-Filter.ensures)
    (promised-filter source sink c.pass.result.status c.pass.result.outcome _ c.pass.ensures.ends c.pass.ensures.none) in
    promised.leaves

pub returns-in-Some-Filter-clause-fails : goal.returns-in-Some-Filter-clause-fails
returns-in-Some-Filter-clause-fails g c =
    let source = reading_of g.S.Source.left g.S.Source.faults c.args.source.now c.pass.new.source in
    let sink = writing_of g.K.Sink.taken g.K.Sink.held g.K.Sink.faults c.args.sink.now c.pass.new.sink in
    let promised = subst (λ (form : Option Form). IsPromised source sink c.pass.result.status c.pass.result.outcome form) (rw c.in-Some-Filter.field-0-is at c.in-Some-Filter.ensures)
    (promised-filter source sink c.pass.result.status c.pass.result.outcome _ c.pass.ensures.ends c.pass.ensures.none) in
    promised.fails

pub returns-in-None-clause-ends : goal.returns-in-None-clause-ends
returns-in-None-clause-ends g c =
    let source = reading_of g.S.Source.left g.S.Source.faults c.args.source.now c.args.source.now in
    let sink = writing_of g.K.Sink.taken g.K.Sink.held g.K.Sink.faults c.args.sink.now c.usage.new.sink in
    let says : Says Usage None usage_line sink c.usage.result.status c.usage.result.outcome = subst (λ (line : List ℕ). Says Usage None line sink c.usage.result.status c.usage.result.outcome) c.usage_bytes.ensures c.usage.ensures in
    let promised = subst (λ (form : Option Form). IsPromised source sink c.usage.result.status c.usage.result.outcome form) c.in-None.ensures (promised-usage source sink c.usage.result.status c.usage.result.outcome refl refl says) in
    promised.ends

pub returns-in-None-clause-complete : goal.returns-in-None-clause-complete
returns-in-None-clause-complete g c =
    let source = reading_of g.S.Source.left g.S.Source.faults c.args.source.now c.args.source.now in
    let sink = writing_of g.K.Sink.taken g.K.Sink.held g.K.Sink.faults c.args.sink.now c.usage.new.sink in
    let says : Says Usage None usage_line sink c.usage.result.status c.usage.result.outcome = subst (λ (line : List ℕ). Says Usage None line sink c.usage.result.status c.usage.result.outcome) c.usage_bytes.ensures c.usage.ensures in
    let promised = subst (λ (form : Option Form). IsPromised source sink c.usage.result.status c.usage.result.outcome form) c.in-None.ensures (promised-usage source sink c.usage.result.status c.usage.result.outcome refl refl says) in
    promised.complete

pub returns-in-None-clause-leaves : goal.returns-in-None-clause-leaves
returns-in-None-clause-leaves g c =
    let source = reading_of g.S.Source.left g.S.Source.faults c.args.source.now c.args.source.now in
    let sink = writing_of g.K.Sink.taken g.K.Sink.held g.K.Sink.faults c.args.sink.now c.usage.new.sink in
    let says : Says Usage None usage_line sink c.usage.result.status c.usage.result.outcome = subst (λ (line : List ℕ). Says Usage None line sink c.usage.result.status c.usage.result.outcome) c.usage_bytes.ensures c.usage.ensures in
    let promised = subst (λ (form : Option Form). IsPromised source sink c.usage.result.status c.usage.result.outcome form) c.in-None.ensures (promised-usage source sink c.usage.result.status c.usage.result.outcome refl refl says) in
    promised.leaves

pub returns-in-None-clause-fails : goal.returns-in-None-clause-fails
returns-in-None-clause-fails g c =
    let source = reading_of g.S.Source.left g.S.Source.faults c.args.source.now c.args.source.now in
    let sink = writing_of g.K.Sink.taken g.K.Sink.held g.K.Sink.faults c.args.sink.now c.usage.new.sink in
    let says : Says Usage None usage_line sink c.usage.result.status c.usage.result.outcome = subst (λ (line : List ℕ). Says Usage None line sink c.usage.result.status c.usage.result.outcome) c.usage_bytes.ensures c.usage.ensures in
    let promised = subst (λ (form : Option Form). IsPromised source sink c.usage.result.status c.usage.result.outcome form) c.in-None.ensures (promised-usage source sink c.usage.result.status c.usage.result.outcome refl refl says) in
    promised.fails
