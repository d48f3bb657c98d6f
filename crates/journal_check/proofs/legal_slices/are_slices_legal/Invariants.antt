use Rattle.std.proofs.Common.{ℕ, ◌<◌}
use Rattle.cache_core.specs.History.{IsLegal}
use Rattle.run_law.specs.Journals.{slice_at}
use Rattle.run_law.specs.Slices.{shape_in}
use Rattle.journal_check.proofs.legal_slices.are_slices_legal.Given as goal

abbrev pub invariant-loop-i : goal.invariant-loop-i
invariant-loop-i l = (k : ℕ) → k < l.i → IsLegal (shape_in l.script.machine k) (slice_at l.j k)
