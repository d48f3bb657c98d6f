use Rattle.std.proofs.Common.{◌≡◌, ◌≤◌, ◌-◌, vec_len}
use Rattle.call_rim.specs.Beginnings.{Passes}
use Rattle.call_rim.proofs.reading.pass_over.Given as goal

abbrev pub invariant-pieces : goal.invariant-pieces
invariant-pieces g l = record {
  faults : g.S.Source.faults l.source ≡ g.S.Source.faults l.initial.source;
  ends : g.S.Source.ends l.source ≡ g.S.Source.ends l.initial.source;
  passed : Passes (g.S.Source.left l.initial.source) (g.S.Source.left l.source) l.passed;
  within : l.passed ≤ l.most;
  buffer : vec_len l.buffer ≡ 65536;
}

abbrev pub decreases-pieces : goal.decreases-pieces
decreases-pieces g l = l.most - l.passed
