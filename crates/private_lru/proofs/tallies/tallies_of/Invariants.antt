use Rattle.private_lru.specs.Ends.{IsHigh}
use Rattle.private_lru.specs.Tallies.{AreTallies}
use Rattle.private_lru.proofs.tallies.tallies_of.Given as goal

abbrev pub invariant-loop-at : goal.invariant-loop-at
invariant-loop-at l = record {
  is_high : IsHigh l.entries l.at l.high;
  are_tallies : AreTallies l.entries l.at l.spans.stays.now l.spans.ends.now l.tallies.items;
}
