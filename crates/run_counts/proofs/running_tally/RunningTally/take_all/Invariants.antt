use Rattle.std.proofs.Common.{◌≡◌, ℕ, take}
use Rattle.cache_core.specs.Whats.{is_access, is_access_of}
use Rattle.run_counts.specs.Tallies.{all_with, at_with, counted_all}
use Rattle.run_counts.proofs.running_tally.RunningTally.take_all.Given as goal

abbrev pub invariant-loop-entry : goal.invariant-loop-entry
invariant-loop-entry l = record {
  groups : (gid : ℕ) → at_with l.self.tally l.self.streak gid ≡ counted_all (is_access_of gid) (at_with l.initial.self.tally l.initial.self.streak gid) (take l.entry-index l.entries);
  all : all_with l.self.tally l.self.streak ≡ counted_all is_access (all_with l.initial.self.tally l.initial.self.streak) (take l.entry-index l.entries);
}
