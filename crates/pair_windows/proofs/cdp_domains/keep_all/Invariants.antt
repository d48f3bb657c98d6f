use Rattle.std.proofs.Common.{◌≡◌, ℕ, ◌+◌}
use Rattle.std.specs.List.{All}
use Rattle.pair_law.specs.Epochs.{state_at}
use Rattle.pair_windows.proofs.Turns.{Turn}
use Rattle.pair_windows.specs.CdpWalks.{IsSmall, IsWalkedIn}
use Rattle.pair_windows.specs.DomainWalks.{Each}
use Rattle.pair_windows.specs.declared.cdp_run.CdpRun.{CdpRun}
use Rattle.pair_windows.proofs.cdp_domains.keep_all.Given as goal

abbrev pub invariant-loop-walk : goal.invariant-loop-walk
invariant-loop-walk l = record {
  all_small : All IsSmall l.walk-items;
  turned : (run : CdpRun) (floor : ℕ) → l.tree.state ≡ state_at run.script.now (l.epoch + 1) → Each (IsWalkedIn run l.epoch floor) l.initial.walk-items
      → Turn (IsWalkedIn run l.epoch floor) (IsWalkedIn run (l.epoch + 1) floor) l.walk-index l.walk-items;
}
