use Rattle.std.proofs.Common.{refl, arith}
use Rattle.journal_check.proofs.StampedCounts.{count_at-zero}
use Rattle.journal_check.proofs.rmid_counts.RmidCounts.create.Goals as goal

pub invariant_of-result : goal.invariant_of-result
invariant_of-result c = record {
  all = c.in_ok-counts.ensures.all;
  present = λ i x is. (let zero = (c.in_ok-counts.ensures.zero i x is).0 in omega (arith, zero));
}

pub returns-clause-zero : goal.returns-clause-zero
returns-clause-zero c rmid below = count_at-zero (record { counts = c.in_ok-counts.counts.items; generation = 0; region_lines = 0 }) rmid refl c.in_ok-counts.ensures.zero
