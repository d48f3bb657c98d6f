use Rattle.std.proofs.Common.{◌≤◌, length, map}
use Rattle.check_parts.specs.JudgedSlices.{entries_at}
use Rattle.lists.specs.Sums.{sum_below}
use Rattle.run_law.specs.Entries.{entries_of}
use Rattle.check_parts.proofs.left_journals.have_more_entries.Given as goal

abbrev pub invariant-loop-i : goal.invariant-loop-i
invariant-loop-i l = l.entries ≤ sum_below l.i (λ k. length (entries_at (map entries_of l.slices) k))
