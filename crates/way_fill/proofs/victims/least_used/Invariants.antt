use Rattle.std.proofs.Common.{◌≡◌, slice_index}
use Rattle.way_fill.specs.Sets.{IsLeast}
use Rattle.way_fill.proofs.victims.least_used.Given as goal

abbrev pub invariant-loop-way : goal.invariant-loop-way
invariant-loop-way l = record {
  is : IsLeast l.used l.mask l.way l.best;
  least : l.least ≡ slice_index l.used l.best;
}
