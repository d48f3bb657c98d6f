use Rattle.std.proofs.Common.{◌≡◌, take}
use Rattle.std.specs.List.{flat_map}
use Rattle.pair_windows.specs.declared.cdp_walks.CdpWalk.{CdpWalk}
use Rattle.pair_windows.proofs.windows.windows_of.Given as goal

abbrev pub invariant-loop-walk : goal.invariant-loop-walk
invariant-loop-walk l = l.windows.items ≡ flat_map (λ (w : CdpWalk). w.windows.items) (take l.walk-index l.walks)
