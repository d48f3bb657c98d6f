use Rattle.std.proofs.Common.{◌+◌}
use Rattle.pair_windows.proofs.Turns.{Turn}
use Rattle.pair_windows.specs.CdpWalks.{IsWalkedIn}
use Rattle.pair_windows.proofs.cdp_domains.meet_all.Given as goal

abbrev pub invariant-loop-walk : goal.invariant-loop-walk
invariant-loop-walk l = Turn (IsWalkedIn l.run l.replay.tree.epoch l.replay.tree.epoch) (IsWalkedIn l.run l.replay.tree.epoch (l.replay.tree.epoch + 1)) l.walk-index l.walk-items
