use Rattle.std.proofs.Common.{◌≡◌}
use Rattle.cache_core.specs.History.{ways_below}
use Rattle.cache_core.proofs.way_bits.count_below.Given as goal

abbrev pub invariant-loop-way : goal.invariant-loop-way
invariant-loop-way l = l.count ≡ ways_below l.word l.way
