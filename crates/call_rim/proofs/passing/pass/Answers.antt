use Rattle.std.proofs.Common.{◌≡◌, ℕ, ◌<◌, ◌++◌, List, [], length, refl, arith, subst, take, inr, ◌∙◌}
use Rattle.std.specs.Prelude.{Ok}
use Rattle.std.proofs.KnownBytes.{Consumes-trans, Keeps-refl}
use Rattle.std.proofs.lemmas.Grind.{common_steps}
use Rattle.std.specs.Io.KnownBytes.{Consumes}
use Rattle.call_rim.specs.Outside.{reading_of, writing_of}
use Rattle.call_rim.specs.Passing.{Hands}
use Rattle.call_rim.specs.declared.pass_program.Passing.{Passing}
use Rattle.call_rim.proofs.Fed.{IsToTheEnd-at_end, LeavesNothing-at_end}
use Rattle.call_rim.proofs.PassedOn.{Consumes-end, IsBegun-nil, IsBegun-passing, IsCutOff-piece, IsPassing-more, IsToTheEnd-all, PassEnds-last, PassEnds-refused, all_of, all_of-begins}
use Rattle.call_rim.proofs.passing.pass.Goals as goal

pub returns-in_default-clause-ends : goal.returns-in_default-clause-ends
returns-in_default-clause-ends g c = rw c.without_outcome.ensures (refl, IsBegun-nil (g.P.PassProgram.due c.args.program.now) _ _ refl refl refl c.begin.ensures.due)

pub returns-in_default-room_for_a_piece-clause-ends : goal.returns-in_default-room_for_a_piece-clause-ends
returns-in_default-room_for_a_piece-clause-ends g c = rw c.without_outcome-in_default-room_for_a_piece.ensures (refl, IsBegun-nil (g.P.PassProgram.due c.args.program.now) _ _ refl refl refl c.begin.ensures.due)

pub returns-in_default-with_room-clause-ends : goal.returns-in_default-with_room-clause-ends
returns-in_default-with_room-clause-ends g c = rw c.without_outcome-in_default-with_room.ensures (refl, IsBegun-nil (g.P.PassProgram.due c.args.program.now) _ _ refl refl refl c.begin.ensures.due)

pub returns-in-Ok-eq0-clause-ends : goal.returns-in-Ok-eq0-clause-ends
returns-in-Ok-eq0-clause-ends g c =
    let inv = c.loop-taken.invariant in
    let p = inv.passing in
    let left = g.S.Source.left c.args.source.now in
    let middle = g.S.Source.left c.loop-taken.source in
    let now = g.S.Source.left c.read.new.self in
    let zero : c.in-Ok-eq0.field-0 ≡ 0 = grind (arith, common_steps) in
    let none : Consumes middle now [] = subst (λ (n : ℕ). Consumes middle now (take n c.read.new.into)) zero c.in-Ok-eq0.ensures.bytes.0 in
    let consumed = Consumes-end left middle now p.bytes p.consumed none in
    let room : 0 < length c.read.new.into = grind (arith, common_steps) in
    let end = c.in-Ok-eq0.ensures.bytes.1 zero room in
    PassEnds-last (g.K.Sink.taken c.args.sink.now) (g.K.Sink.taken c.loop-taken.sink) (g.K.Sink.taken c.pass_end.new.sink) (g.K.Sink.held c.pass_end.new.sink)
    (g.K.Sink.faults c.args.sink.now) (g.K.Sink.faults c.loop-taken.sink) (g.K.Sink.faults c.pass_end.new.sink) inv.sink_faults p.handed.written p.handed.appended
    (g.P.PassProgram.due c.args.program.now) (g.P.PassProgram.refuses c.args.program.now) (g.P.PassProgram.passes c.args.program.now)
    (reading_of g.S.Source.left g.S.Source.faults c.args.source.now c.read.new.self) (c.in-Ok-eq0.ensures.cause.kept ∙ inv.faults) p.bytes c.pass_end.result.status
    (IsToTheEnd-at_end left now p.bytes consumed end) (LeavesNothing-at_end left now p.bytes consumed end)
    (c.pass_end.ensures.says p.bytes p.handed.written p.handed.passed)

pub returns-in-Ok-Refused-clause-ends : goal.returns-in-Ok-Refused-clause-ends
returns-in-Ok-Refused-clause-ends g c =
    let inv = c.loop-taken.invariant in
    let p = inv.passing in
    let program = c.args.program.now in
    let start = g.K.Sink.taken c.args.sink.now in
    let left = g.S.Source.left c.args.source.now in
    let middle = g.S.Source.left c.loop-taken.source in
    let now = g.S.Source.left c.read.new.self in
    let piece = take c.in-Ok-read.count c.deref.result.now in
    let same : c.read.new.into ≡ c.deref.result.now = grind (arith, common_steps) in
    let read = subst (λ (bs : List ℕ). Consumes middle now (take c.in-Ok-read.count bs)) same c.in-Ok-read.ensures.bytes.0 in
    let bytes = p.bytes ++ piece in
    let consumed = Consumes-trans left middle now p.bytes piece p.consumed read in
    let waiting = c.pass_piece.new.out.bytes in
    let last = subst
    (λ (q : Passing). Hands (g.P.PassProgram.has_passed program c.pass_piece.new.state) (g.P.PassProgram.due program) (g.P.PassProgram.refuses program) start (g.K.Sink.taken c.pass_piece.new.sink) bytes waiting (Ok q))
    c.in-Ok-Refused.field-0-is (c.in-Ok-Refused.ensures.hands start p.bytes p.handed) in
    PassEnds-refused start (g.K.Sink.taken c.pass_piece.new.sink) (g.K.Sink.taken c.say.new.sink) (g.K.Sink.held c.say.new.sink)
    (g.K.Sink.faults c.args.sink.now) (g.K.Sink.faults c.pass_piece.new.sink) (g.K.Sink.faults c.say.new.sink) (c.in-Ok-Refused.ensures.faults ∙ inv.sink_faults) last.written last.appended
    (g.P.PassProgram.due program) (g.P.PassProgram.refuses program) (g.P.PassProgram.passes program)
    (reading_of g.S.Source.left g.S.Source.faults c.args.source.now c.read.new.self) (c.in-Ok-read.ensures.cause.kept ∙ inv.faults) bytes c.say.result.status waiting (all_of now bytes)
    (IsToTheEnd-all left now bytes consumed) (all_of-begins (λ (all : List ℕ). g.P.PassProgram.refuses program all (last.written ++ waiting)) now bytes last.refused)
    (rw c.bytes.ensures at c.say.ensures.1)

pub returns-in-Err-pass_piece-clause-ends : goal.returns-in-Err-pass_piece-clause-ends
returns-in-Err-pass_piece-clause-ends g c =
    let inv = c.loop-taken.invariant in
    let p = inv.passing in
    let start = g.K.Sink.taken c.args.sink.now in
    let left = g.S.Source.left c.args.source.now in
    let middle = g.S.Source.left c.loop-taken.source in
    let now = g.S.Source.left c.read.new.self in
    let piece = take c.in-Ok-read.count c.deref.result.now in
    let same : c.read.new.into ≡ c.deref.result.now = grind (arith, common_steps) in
    let read = subst (λ (bs : List ℕ). Consumes middle now (take c.in-Ok-read.count bs)) same c.in-Ok-read.ensures.bytes.0 in
    let consumed = Consumes-trans left middle now p.bytes piece p.consumed read in
    let fault = subst (λ (n : ℕ). n < g.K.Sink.faults c.pass_piece.new.sink) inv.sink_faults c.in-Err-pass_piece.ensures.failed in
    rw c.without_outcome-in-Err-pass_piece.ensures (
      c.in-Ok-read.ensures.cause.kept ∙ inv.faults,
      inr (inr (IsCutOff-piece (g.P.PassProgram.due c.args.program.now) (reading_of g.S.Source.left g.S.Source.faults c.args.source.now c.read.new.self)
          (writing_of g.K.Sink.taken g.K.Sink.held g.K.Sink.faults c.args.sink.now c.pass_piece.new.sink) (p.bytes ++ piece) consumed (c.in-Err-pass_piece.ensures.hands start p.bytes p.handed) fault)),
    )

pub loop-taken-preserved : goal.loop-taken-preserved
loop-taken-preserved g c =
    let inv = c.loop-taken.invariant in
    let p = inv.passing in
    let program = c.args.program.now in
    let start = g.K.Sink.taken c.args.sink.now in
    let left = g.S.Source.left c.args.source.now in
    let middle = g.S.Source.left c.loop-taken.source in
    let now = g.S.Source.left c.read.new.self in
    let piece = take c.in-Ok-read.count c.deref.result.now in
    let same : c.read.new.into ≡ c.deref.result.now = grind (arith, common_steps) in
    let read = subst (λ (bs : List ℕ). Consumes middle now (take c.in-Ok-read.count bs)) same c.in-Ok-read.ensures.bytes.0 in
    let waiting = c.pass_piece.new.out.bytes in
    let handed = subst
    (λ (q : Passing). Hands (g.P.PassProgram.has_passed program c.pass_piece.new.state) (g.P.PassProgram.due program) (g.P.PassProgram.refuses program) start (g.K.Sink.taken c.pass_piece.new.sink) (p.bytes ++ piece) waiting
    (Ok q)) c.in-Ok-Good.field-0-is (c.in-Ok-Good.ensures.hands start p.bytes p.handed) in
    record {
      faults = c.in-Ok-read.ensures.cause.kept ∙ inv.faults;
      ends = grind (arith, common_steps);
      sink_faults = c.in-Ok-Good.ensures.faults ∙ inv.sink_faults;
      buffer = grind (arith, common_steps);
      count = grind (arith, common_steps);
      waits = grind (arith, common_steps);
      passing = IsPassing-more (g.P.PassProgram.has_passed program c.loop-taken.state) (g.P.PassProgram.has_passed program c.pass_piece.new.state) (g.P.PassProgram.due program) left middle now start
          (g.K.Sink.taken c.loop-taken.sink) (g.K.Sink.taken c.pass_piece.new.sink) c.loop-taken.out.bytes waiting piece p read handed;
    }

pub returns-in-Err-clause-ends : goal.returns-in-Err-clause-ends
returns-in-Err-clause-ends g c =
    let inv = c.loop-taken.invariant in rw c.without_outcome-in-Err.ensures (
      subst (λ (n : ℕ). n < g.S.Source.faults c.read.new.self) inv.faults c.in-Err.ensures.cause.failed,
      IsBegun-passing (g.P.PassProgram.has_passed c.args.program.now c.loop-taken.state) (g.P.PassProgram.due c.args.program.now)
          (reading_of g.S.Source.left g.S.Source.faults c.args.source.now c.read.new.self) (writing_of g.K.Sink.taken g.K.Sink.held g.K.Sink.faults c.args.sink.now c.loop-taken.sink)
          (g.S.Source.left c.loop-taken.source) c.loop-taken.out.bytes inv.passing c.in-Err.ensures.bytes inv.waits.few inv.sink_faults,
    )

pub returns-clause-ends : goal.returns-clause-ends
returns-clause-ends g c =
    let inv = c.loop-taken.invariant in rw c.without_outcome-2.ensures (
      inv.faults,
      IsBegun-passing (g.P.PassProgram.has_passed c.args.program.now c.loop-taken.state) (g.P.PassProgram.due c.args.program.now)
          (reading_of g.S.Source.left g.S.Source.faults c.args.source.now c.loop-taken.source) (writing_of g.K.Sink.taken g.K.Sink.held g.K.Sink.faults c.args.sink.now c.loop-taken.sink)
          (g.S.Source.left c.loop-taken.source) c.loop-taken.out.bytes inv.passing (Keeps-refl _) inv.waits.few inv.sink_faults,
    )
