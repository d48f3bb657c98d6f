use Rattle.std.proofs.Common.{◌+◌, ◌-◌, length}
use Rattle.pair_text.specs.Values.{commands_of}
use Rattle.pair_windows.specs.CdpWalks.{IsWalkedIn}
use Rattle.pair_windows.specs.DomainWalks.{Each}
use Rattle.pair_windows.specs.Replays.{HasTaken}
use Rattle.pair_windows.proofs.cdp_domains.take_commands.Given as goal

abbrev pub invariant-loop-alloc : goal.invariant-loop-alloc
invariant-loop-alloc l = record {
  has_taken : HasTaken l.run.script.now l.replay;
  walked : Each (IsWalkedIn l.run l.replay.tree.epoch (l.replay.tree.epoch + 1)) l.walks;
}

abbrev pub decreases-loop-alloc : goal.decreases-loop-alloc
decreases-loop-alloc l = length (commands_of l.run.script.now) - l.replay.tree.epoch
