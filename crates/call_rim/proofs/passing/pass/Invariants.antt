use Rattle.std.proofs.Common.{◌≡◌, ◌-◌, vec_len}
use Rattle.call_rim.specs.Passing.{IsWaiting}
use Rattle.call_rim.proofs.PassedOn.{IsPassing}
use Rattle.call_rim.proofs.passing.pass.Given as goal

abbrev pub invariant-loop-taken : goal.invariant-loop-taken
invariant-loop-taken g l = record {
  faults : g.S.Source.faults l.source ≡ g.S.Source.faults l.initial.source;
  ends : g.S.Source.ends l.source ≡ g.S.Source.ends l.initial.source;
  sink_faults : g.K.Sink.faults l.sink ≡ g.K.Sink.faults l.initial.sink;
  buffer : vec_len l.buffer ≡ 65536;
  count : g.P.PassProgram.count l.program l.state ≡ l.taken;
  waits : IsWaiting l.out;
  passing : IsPassing (g.P.PassProgram.has_passed l.program l.state) (g.P.PassProgram.due l.program) (g.S.Source.left l.initial.source) (g.S.Source.left l.source) (g.K.Sink.taken l.initial.sink) (g.K.Sink.taken l.sink) l.out.bytes;
}

abbrev pub decreases-loop-taken : goal.decreases-loop-taken
decreases-loop-taken g l = 72057594037927936 - l.taken
