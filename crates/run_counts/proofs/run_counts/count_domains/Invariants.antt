use Rattle.std.proofs.Common.{◌*◌}
use Rattle.run_counts.specs.Occupancies.{Suits}
use Rattle.run_counts.specs.RunCounts.{AreOfDomains}
use Rattle.run_counts.specs.Tallies.{HasTallied}
use Rattle.run_counts.proofs.run_counts.count_domains.Given as goal

abbrev pub invariant-loop-domain : goal.invariant-loop-domain
invariant-loop-domain l = record {
  suits : Suits l.script.machine l.walk.lines;
  tallied : HasTallied l.journals (l.domain * l.script.machine.slices) l.walk.tally.tally l.walk.tally.streak;
  lines : AreOfDomains l.script l.journals l.domain l.domains.items;
}
