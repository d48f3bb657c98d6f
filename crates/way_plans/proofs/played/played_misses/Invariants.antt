use Rattle.std.proofs.Common.{◌≡◌, ◌≤◌, ◌*◌, ◌^◌, ℕ}
use Rattle.lists.specs.Sums.{sum_below}
use Rattle.machine.specs.Slices.{slice_number}
use Rattle.run_law.specs.Journals.{slice_at}
use Rattle.way_plans.specs.Comparisons.{played_in}
use Rattle.way_plans.proofs.played.played_misses.Given as goal

abbrev pub invariant-loop-slice : goal.invariant-loop-slice
invariant-loop-slice l = record {
  few : l.misses ≤ l.slice * 2 ^ 32;
  is : l.misses ≡ sum_below l.slice (λ (slice : ℕ). played_in l.groups (slice_at l.journals (slice_number l.script.machine l.domain slice)));
}
