use Rattle.std.proofs.Common.{◌≡◌}
use Rattle.live_run.proofs.phases.end_all.Given as goal
use Rattle.live_run.specs.Phases.{HaveEnded}

abbrev pub invariant-loop-k : goal.invariant-loop-k
invariant-loop-k g l = record {
  ended : HaveEnded l.k l.fn.turn l.turn;
  same : l.own ≡ l.fn.own;
}
