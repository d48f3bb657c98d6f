use Rattle.std.proofs.Common.{◌-◌, ◌≤◌}
use Rattle.pair_windows.specs.Replays.{HasTaken}
use Rattle.pair_windows.proofs.replay.Replay.reach.Given as goal

abbrev pub invariant-loop-self : goal.invariant-loop-self
invariant-loop-self l = record {
  has_taken : HasTaken l.script l.self;
  not_past : l.self.place ≤ l.place;
}

abbrev pub decreases-loop-self : goal.decreases-loop-self
decreases-loop-self l = l.place - l.self.place
