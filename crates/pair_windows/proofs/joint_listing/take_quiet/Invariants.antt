use Rattle.std.proofs.Common.{◌≡◌, ℕ, ◌-◌, ◌<◌, ◌≤◌, false, length}
use Rattle.pair_text.specs.Values.{op_at}
use Rattle.pair_windows.specs.Replays.{HasTaken}
use Rattle.pair_law.specs.JointWindows.{is_flush}
use Rattle.pair_windows.proofs.joint_listing.take_quiet.Given as goal

abbrev pub invariant-loop-replay : goal.invariant-loop-replay
invariant-loop-replay l = record {
  has_taken : HasTaken l.script l.replay;
  later : l.initial.replay.place ≤ l.replay.place;
  within : l.replay.place ≤ length l.script.ops;
  quiet : (i : ℕ) → l.initial.replay.place ≤ i → i < l.replay.place → is_flush (op_at l.script i) ≡ false;
}

abbrev pub decreases-loop-replay : goal.decreases-loop-replay
decreases-loop-replay l = length l.script.ops - l.replay.place
