use Rattle.std.proofs.Common.{◌≡◌, ◌-◌, ◌<◌, ◌≤◌, true, length}
use Rattle.pair_text.specs.Values.{op_at}
use Rattle.pair_law.specs.JointWindows.{is_flush}
use Rattle.pair_windows.specs.DomainWalks.{Each, HasFound}
use Rattle.pair_windows.specs.Replays.{HasTaken}
use Rattle.pair_windows.proofs.joint_listing.push_flushes.Given as goal

abbrev pub invariant-loop-alloc : goal.invariant-loop-alloc
invariant-loop-alloc l = record {
  has_taken : HasTaken l.script l.replay;
  within : l.replay.place ≤ length l.script.ops;
  at_flush : l.replay.place < length l.script.ops → is_flush (op_at l.script l.replay.place) ≡ true;
  found : Each (HasFound l.script l.hits l.replay.place) l.walks;
}

abbrev pub decreases-loop-alloc : goal.decreases-loop-alloc
decreases-loop-alloc l = length l.script.ops - l.replay.place
