use Rattle.std.proofs.Common.{◌+◌, [], ◌∷◌, ◌++◌, drop, get_or, subst, take}
use Rattle.std.specs.Prelude.{Ok}
use Rattle.call_rim.specs.Passing.{Hands}
use Rattle.call_rim.specs.declared.pass_program.Passing.{Passing}
use Rattle.call_rim.proofs.Passed.{IsCut-more, IsHandedLast-more, piece-at}
use Rattle.call_rim.proofs.passing.pass_piece.Goals as goal

pub returns-in-Ok-Refused-clause-hands : goal.returns-in-Ok-Refused-clause-hands
returns-in-Ok-Refused-clause-hands g c = λ start bytes handed.
    let piece = c.args.piece.now in
    let n = c.loop-byte.byte-index in
    let program = c.args.program.now in
    let before = c.loop-byte.invariant.hands start bytes handed in
    let all = (bytes ++ take n piece) ++ get_or piece n 0 ∷ [] in
    let last = subst
    (λ (p : Passing). Hands (g.P.PassProgram.has_passed program c.pass_byte.new.state) (g.P.PassProgram.due program) (g.P.PassProgram.refuses program) start (g.K.Sink.taken c.pass_byte.new.sink) all
    c.pass_byte.new.out.bytes (Ok p)) c.in-Ok-Refused.field-0-is (c.in-Ok-Refused.ensures.hands start (bytes ++ take n piece) before) in
    IsHandedLast-more (g.P.PassProgram.refuses program) start (g.K.Sink.taken c.pass_byte.new.sink) all (drop (n + 1) piece) (bytes ++ piece) c.pass_byte.new.out.bytes (piece-at bytes piece n c.loop-byte-test.true) last

pub returns-in-Err-clause-hands : goal.returns-in-Err-clause-hands
returns-in-Err-clause-hands g c = λ start bytes handed.
    let piece = c.args.piece.now in
    let n = c.loop-byte.byte-index in
    let before = c.loop-byte.invariant.hands start bytes handed in
    IsCut-more (g.P.PassProgram.due c.args.program.now) start _ _ (drop (n + 1) piece) (bytes ++ piece) (piece-at bytes piece n c.loop-byte-test.true)
    (c.in-Err.ensures.hands start (bytes ++ take n piece) before)
