use Rattle.std.proofs.Common.{◌≡◌, ℕ, ◌*◌, ◌<◌}
use Rattle.cache_core.specs.History.{lines_of, valid_of}
use Rattle.lists.specs.Sums.{sum_below}
use Rattle.machine.specs.Slices.{slice_number}
use Rattle.run_counts.specs.Occupancies.{IsAtMost, Suits, lines_told}
use Rattle.run_counts.specs.Tallies.{HasTallied}
use Rattle.run_law.specs.Journals.{slice_at}
use Rattle.run_law.specs.Slices.{shape_in}
use Rattle.run_counts.proofs.domains.count_domain.Given as goal

abbrev pub invariant-loop-slice : goal.invariant-loop-slice
invariant-loop-slice l = record {
  tallied : HasTallied l.journals (slice_number l.script.machine l.domain l.slice) l.walk.tally.tally l.walk.tally.streak;
  suits : Suits l.script.machine l.walk.lines;
  few : IsAtMost (l.slice * 2097152) l.walk.lines;
  lines : (r : ℕ) → r < l.script.machine.rmids
      → lines_told l.walk.lines r ≡ sum_below l.slice (λ x. lines_of (shape_in l.script.machine (slice_number l.script.machine l.domain x)) (slice_at l.journals (slice_number l.script.machine l.domain x)) r);
  valid : l.walk.lines.valid ≡ sum_below l.slice (λ x. valid_of (shape_in l.script.machine (slice_number l.script.machine l.domain x)) (slice_at l.journals (slice_number l.script.machine l.domain x)));
}
