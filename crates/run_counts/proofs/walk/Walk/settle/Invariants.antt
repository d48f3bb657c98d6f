use Rattle.std.proofs.Common.{◌≡◌, ℕ, ◌≤◌, drop, length}
use Rattle.cache_core.specs.History.{decided}
use Rattle.machine.specs.Maps.{parameters_of}
use Rattle.cache_core.specs.Whats.{is_access, is_access_of}
use Rattle.run_counts.specs.Occupancies.{HasDecided}
use Rattle.run_counts.specs.Tallies.{all_with, at_with, counted_all}
use Rattle.run_law.specs.Slices.{shape_in}
use Rattle.run_counts.proofs.walk.Walk.settle.Given as goal

abbrev pub invariant-loop-left : goal.invariant-loop-left
invariant-loop-left l = record {
  within : l.left ≤ length l.entries;
  groups : (gid : ℕ) → at_with l.self.tally.tally l.self.tally.streak gid ≡ counted_all (is_access_of gid) (at_with l.initial.self.tally.tally l.initial.self.tally.streak gid) (drop l.left l.entries);
  all : all_with l.self.tally.tally l.self.tally.streak ≡ counted_all is_access (all_with l.initial.self.tally.tally l.initial.self.tally.streak) (drop l.left l.entries);
  decided : HasDecided (shape_in (parameters_of l.machine) l.i) l.initial.self.lines (decided (shape_in (parameters_of l.machine) l.i) (drop l.left l.entries)) l.self.lines;
}

abbrev pub decreases-loop-left : goal.decreases-loop-left
decreases-loop-left l = l.left
