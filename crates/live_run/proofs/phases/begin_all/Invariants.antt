use Rattle.std.proofs.Common.{◌≡◌}
use Rattle.live_run.proofs.phases.begin_all.Given as goal
use Rattle.live_run.specs.Phases.{AreBegun}

abbrev pub invariant-loop-k : goal.invariant-loop-k
invariant-loop-k g l = record {
  turn : l.turn ≡ l.fn.turn;
  begun : AreBegun l.k l.fn.own l.own;
}
