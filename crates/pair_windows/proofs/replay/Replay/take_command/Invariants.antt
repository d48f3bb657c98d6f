use Rattle.std.proofs.Common.{◌+◌, ◌-◌, ◌≤◌, length}
use Rattle.pair_windows.specs.Replays.{HasTaken}
use Rattle.pair_windows.proofs.replay.Replay.take_command.Given as goal

abbrev pub invariant-loop-self : goal.invariant-loop-self
invariant-loop-self l = record {
  has_taken : HasTaken l.script l.self;
  from_before : l.before ≤ l.self.tree.epoch;
  to_next : l.self.tree.epoch ≤ l.before + 1;
}

abbrev pub decreases-loop-self : goal.decreases-loop-self
decreases-loop-self l = length l.script.ops - l.self.place
