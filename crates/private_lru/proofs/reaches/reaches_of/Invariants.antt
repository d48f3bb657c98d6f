use Rattle.private_lru.specs.Cuts.{AreReaches}
use Rattle.private_lru.specs.Ends.{IsHigh}
use Rattle.private_lru.proofs.reaches.reaches_of.Given as goal

abbrev pub invariant-loop-at : goal.invariant-loop-at
invariant-loop-at l = record {
  is_high : IsHigh l.entries l.at l.high;
  are_reaches : AreReaches l.entries l.at l.stays l.reaches.items;
}
