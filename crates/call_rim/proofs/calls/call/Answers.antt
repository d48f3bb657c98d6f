use Rattle.std.proofs.Common.{ℕ, refl, subst, true}
use Rattle.call_rim.proofs.laws.Ends.{Ends-made, IsMade-within, LeavesBy-rest}
use Rattle.call_rim.proofs.laws.InputBytes.{LeavesRest-of}
use Rattle.call_rim.specs.Endings.{call_of}
use Rattle.call_rim.specs.Outside.{IsInput, reading_of, writing_of}
use Rattle.call_rim.specs.Within.{RefusesWithin, ReportsWithin}
use Rattle.call_rim.proofs.calls.call.Goals as goal

pub returns-in-Ok-clause-ends : goal.returns-in-Ok-clause-ends
returns-in-Ok-clause-ends g c =
    let program = c.args.program.now in
    let most = g.P.Program.most program in
    let refuses = RefusesWithin most (g.P.Program.refuses program) in
    let reports = ReportsWithin most (g.P.Program.reports program) in
    let before = g.S.Source.left c.args.source.now in
    let now = g.S.Source.left c.read_all.new.source in
    let bytes = c.in-Ok.bytes.items in
    let made = c.perform_within.result in
    let input = subst (λ (m : ℕ). IsInput m before bytes) c.most_bytes.ensures.most c.in-Ok.ensures.bytes in
    let rest = LeavesRest-of most before now bytes c.in-Ok.ensures.taken input in
    let performs = c.perform_within.ensures in
    let is_made = IsMade-within (g.P.Program.refuses program) (g.P.Program.reports program) most before now bytes made input rest performs in
    λ usage. Ends-made refuses reports
    (call_of true usage (reading_of g.S.Source.left g.S.Source.faults c.args.source.now c.read_all.new.source) (writing_of g.K.Sink.taken g.K.Sink.held g.K.Sink.faults c.args.sink.now c.tell.new.sink))
    c.tell.result.status c.tell.result.outcome made refl c.in-Ok.ensures.faults is_made c.tell.ensures

pub returns-in-Ok-clause-leaves : goal.returns-in-Ok-clause-leaves
returns-in-Ok-clause-leaves g c =
    let most = g.P.Program.most c.args.program.now in
    let before = g.S.Source.left c.args.source.now in
    let now = g.S.Source.left c.read_all.new.source in
    let bytes = c.in-Ok.bytes.items in
    let input = subst (λ (m : ℕ). IsInput m before bytes) c.most_bytes.ensures.most c.in-Ok.ensures.bytes in
    LeavesBy-rest most (reading_of g.S.Source.left g.S.Source.faults c.args.source.now c.read_all.new.source) c.tell.result.status (LeavesRest-of most before now bytes c.in-Ok.ensures.taken input)
