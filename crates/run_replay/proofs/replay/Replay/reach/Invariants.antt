use Rattle.std.proofs.Common.{◌≡◌}
use Rattle.run_replay.specs.Playbacks.{HasTaken}
use Rattle.run_replay.proofs.replay.Replay.reach.Given as goal

abbrev pub invariant-loop-next : goal.invariant-loop-next
invariant-loop-next l = record {
  taken : HasTaken l.script l.journals.tree l.self;
  epoch : l.self.epoch ≡ l.next;
}
