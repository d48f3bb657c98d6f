use Rattle.pair_windows.proofs.Turns.{Turn}
use Rattle.pair_windows.specs.CdpWalks.{HasFoundAll, IsDoneAt}
use Rattle.pair_windows.proofs.cdp_domains.close_all.Given as goal

abbrev pub invariant-loop-walk : goal.invariant-loop-walk
invariant-loop-walk l = Turn (IsDoneAt l.run l.epoch) (HasFoundAll l.run) l.walk-index l.walk-items
