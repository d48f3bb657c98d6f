use Rattle.std.proofs.Common.{None, ℕ, List, subst}
use Rattle.call_rim.specs.Endings.{Says}
use Rattle.call_rim.specs.Outside.{writing_of}
use Rattle.call_rim.specs.declared.status.Status.TheVariants.{Usage}
use Rattle.check_top.proofs.RimEndings.{Ends-usage}
use Rattle.check_top.proofs.calls.refuse_words.Goals as goal

pub returns : goal.returns
returns g c =
    let sink = writing_of g.K.Sink.taken g.K.Sink.held g.K.Sink.faults c.args.sink.now c.usage.new.sink in
    let said = subst (λ (line : List ℕ). Says Usage None line sink c.usage.result.status c.usage.result.outcome) c.usage_bytes.ensures c.usage.ensures in
    λ source same read. Ends-usage source sink c.usage.result.status c.usage.result.outcome c.checked.result c.checked.ensures same read said
