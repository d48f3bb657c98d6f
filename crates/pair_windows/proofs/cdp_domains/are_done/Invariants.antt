use Rattle.std.proofs.Common.{ℕ, ◌<◌, get_or}
use Rattle.pair_windows.specs.CdpWalks.{IsDone}
use Rattle.pair_windows.specs.declared.cdp_walks.CdpWalk.{CdpWalk}
use Rattle.pair_windows.proofs.cdp_domains.are_done.Given as goal

abbrev pub invariant-loop-walk : goal.invariant-loop-walk
invariant-loop-walk l = (i : ℕ) (d : CdpWalk) → i < l.walk-index → IsDone l.run i (get_or l.walks i d)
