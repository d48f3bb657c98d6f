use Rattle.std.proofs.Common.{◌≡◌, ℕ, ◌+◌, List, ◌++◌, take, Option}
use Rattle.call_rim.specs.Passing.{IsHanded, IsWaiting}
use Rattle.call_rim.proofs.passing.pass_piece.Given as goal

abbrev pub invariant-loop-byte : goal.invariant-loop-byte
invariant-loop-byte g l = record {
  faults : g.K.Sink.faults l.sink ≡ g.K.Sink.faults l.initial.sink;
  count : g.P.PassProgram.count l.program l.state ≡ g.P.PassProgram.count l.program l.initial.state + l.byte-index;
  waits : IsWaiting l.out;
  hands : (start : Option (List ℕ)) (bytes : List ℕ) → IsHanded (g.P.PassProgram.has_passed l.program l.initial.state) (g.P.PassProgram.due l.program) start (g.K.Sink.taken l.initial.sink) bytes l.initial.out.bytes
      → IsHanded (g.P.PassProgram.has_passed l.program l.state) (g.P.PassProgram.due l.program) start (g.K.Sink.taken l.sink) (bytes ++ take l.byte-index l.piece) l.out.bytes;
}
