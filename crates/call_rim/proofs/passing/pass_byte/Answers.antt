use Rattle.std.proofs.Common.{[], ◌∷◌, ◌++◌}
use Rattle.call_rim.specs.Passing.{IsHanded}
use Rattle.call_rim.proofs.Passed.{IsCut-failed, IsHanded-moves}
use Rattle.call_rim.proofs.passing.pass_byte.Goals as goal

pub returns-in-Ok-clause-hands : goal.returns-in-Ok-clause-hands
returns-in-Ok-clause-hands g c = λ start bytes handed.
    let taken = c.in-Good.ensures.taken bytes handed.written handed.passed in
    let now = bytes ++ c.args.byte ∷ [] in
    let after : IsHanded (g.P.PassProgram.has_passed c.args.program.now c.take.new.state) (g.P.PassProgram.due c.args.program.now) start (g.K.Sink.taken c.args.sink.now) now c.take.new.out.bytes =
    record { written = handed.written; appended = handed.appended; passed = taken.0; is_due = taken.1 } in
    IsHanded-moves _ _ start (g.K.Sink.taken c.args.sink.now) (g.K.Sink.taken c.write_long.new.sink) now c.take.new.out.bytes after c.write_long.new.out.bytes c.in-Ok.ensures.moves

pub returns-in-Err-clause-hands : goal.returns-in-Err-clause-hands
returns-in-Err-clause-hands g c = λ start bytes handed.
    let taken = c.in-Good.ensures.taken bytes handed.written handed.passed in
    let now = bytes ++ c.args.byte ∷ [] in
    let after : IsHanded (g.P.PassProgram.has_passed c.args.program.now c.take.new.state) (g.P.PassProgram.due c.args.program.now) start (g.K.Sink.taken c.args.sink.now) now c.take.new.out.bytes =
    record { written = handed.written; appended = handed.appended; passed = taken.0; is_due = taken.1 } in
    IsCut-failed _ _ start (g.K.Sink.taken c.args.sink.now) (g.K.Sink.taken c.write_long.new.sink) now c.take.new.out.bytes after c.in-Err.ensures.failed.taken

pub returns-in-Refused-clause-hands : goal.returns-in-Refused-clause-hands
returns-in-Refused-clause-hands g c = λ start bytes handed.
    record { written = handed.written; appended = handed.appended; refused = c.in-Refused.ensures.taken bytes handed.written handed.passed }
