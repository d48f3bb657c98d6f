use Rattle.std.proofs.Common.{◌≡◌}
use Rattle.cache_core.specs.History.{ways_below}
use Rattle.journal_check.proofs.region.ways_below.Given as goal

abbrev pub invariant-loop-w : goal.invariant-loop-w
invariant-loop-w l = l.count ≡ ways_below l.mask l.w
