use Rattle.std.proofs.Common.{◌≡◌, take}
use Rattle.std.specs.List.{flat_map}
use Rattle.pair_windows.specs.declared.domain_walks.DomainWalk.{DomainWalk}
use Rattle.pair_windows.proofs.joint_listing.windows_of.Given as goal

abbrev pub invariant-loop-walk : goal.invariant-loop-walk
invariant-loop-walk l = l.windows.items ≡ flat_map (λ (w : DomainWalk). w.windows.items) (take l.walk-index l.walks)
