use Rattle.std.proofs.Common.{◌≡◌, map, take}
use Rattle.machine.specs.Maps.{parameters_of}
use Rattle.run_counts.specs.CacheCounts.{slices_alone, valid_in}
use Rattle.run_counts.specs.Occupancies.{Suits}
use Rattle.run_counts.specs.Tallies.{HasTallied}
use Rattle.run_law.specs.Entries.{entries_of}
use Rattle.run_counts.proofs.cache_counts.CacheCounts.of.Given as goal

abbrev pub invariant-loop-i : goal.invariant-loop-i
invariant-loop-i l = record {
  tallied : HasTallied (slices_alone (map entries_of l.caches)) l.i l.walk.tally.tally l.walk.tally.streak;
  suits : Suits (parameters_of l.machine) l.walk.lines;
  told : l.valid.items ≡ valid_in (parameters_of l.machine) (take l.i (map entries_of l.caches));
}
