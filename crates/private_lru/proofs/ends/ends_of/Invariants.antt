use Rattle.private_lru.specs.Cuts.{AreCuts, IsStart}
use Rattle.private_lru.proofs.ends.ends_of.Given as goal

abbrev pub invariant-loop-next : goal.invariant-loop-next
invariant-loop-next l = record {
  is_start : IsStart l.uses l.next l.start;
  are_cuts : AreCuts l.set.sets l.set.opening l.uses l.next l.set.none l.set.stays.now l.set.reaches.now l.ends.items;
}
