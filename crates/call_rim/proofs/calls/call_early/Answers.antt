use Rattle.std.proofs.Common.{refl, true}
use Rattle.call_rim.proofs.laws.Ends.{Ends-made, IsMade-within, LeavesBy-rest}
use Rattle.call_rim.proofs.laws.InputBytes.{LeavesRest-of}
use Rattle.call_rim.specs.Endings.{call_of}
use Rattle.call_rim.specs.Outside.{reading_of, writing_of}
use Rattle.call_rim.specs.Within.{RefusesWithin, ReportsWithin}
use Rattle.call_rim.proofs.calls.call_early.Goals as goal

pub returns-in-Ok-clause-ends : goal.returns-in-Ok-clause-ends
returns-in-Ok-clause-ends g c =
    let program = c.args.program.now in
    let most = g.P.Program.most program in
    let refuses = g.P.Program.refuses program in
    let reports = g.P.Program.reports program in
    let source = reading_of g.S.Source.left g.S.Source.faults c.args.source.now c.make_early.new.source in
    let sink = writing_of g.K.Sink.taken g.K.Sink.held g.K.Sink.faults c.args.sink.now c.tell.new.sink in
    let made = c.in-Ok.ensures.made in
    let rest = LeavesRest-of most source.left source.left_now made.bytes made.taken made.input in
    let is_made = IsMade-within refuses reports most source.left source.left_now made.bytes c.in-Ok.made made.input rest made.performed in
    λ usage. Ends-made (RefusesWithin most refuses) (ReportsWithin most reports) (call_of true usage source sink) c.tell.result.status c.tell.result.outcome c.in-Ok.made refl c.in-Ok.ensures.faults is_made c.tell.ensures

pub returns-in-Ok-clause-leaves : goal.returns-in-Ok-clause-leaves
returns-in-Ok-clause-leaves g c =
    let most = g.P.Program.most c.args.program.now in
    let source = reading_of g.S.Source.left g.S.Source.faults c.args.source.now c.make_early.new.source in
    let made = c.in-Ok.ensures.made in
    LeavesBy-rest most source c.tell.result.status (LeavesRest-of most source.left source.left_now made.bytes made.taken made.input)
