use Rattle.std.proofs.Common.{◌≡◌, take}
use Rattle.journal_check.specs.Needs.{AreSmall}
use Rattle.journal_check.proofs.needs.pairs_of.Given as goal

abbrev pub invariant-loop-i : goal.invariant-loop-i
invariant-loop-i l = record {
  pairs : l.pairs.items ≡ take l.i l.counts;
  small : AreSmall l.pairs.items;
}
