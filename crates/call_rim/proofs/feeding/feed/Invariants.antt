use Rattle.std.proofs.Common.{◌≡◌, ◌-◌, vec_len}
use Rattle.call_rim.proofs.Fed.{IsFed}
use Rattle.call_rim.proofs.feeding.feed.Given as goal

abbrev pub invariant-loop-taken : goal.invariant-loop-taken
invariant-loop-taken g l = record {
  faults : g.S.Source.faults l.source ≡ g.S.Source.faults l.initial.source;
  ends : g.S.Source.ends l.source ≡ g.S.Source.ends l.initial.source;
  buffer : vec_len l.buffer ≡ 65536;
  count : g.P.StreamProgram.count l.program l.state ≡ l.taken;
  fed : IsFed (g.P.StreamProgram.has_taken l.program l.state) (g.P.StreamProgram.good_so_far l.program) (g.S.Source.left l.initial.source) (g.S.Source.left l.source);
}

abbrev pub decreases-loop-taken : goal.decreases-loop-taken
decreases-loop-taken g l = 72057594037927936 - l.taken
