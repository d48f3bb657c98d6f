use Rattle.std.proofs.Common.{ℕ, ◌<◌}
use Rattle.journal_check.specs.AfterCommands.{IsAfterCommands}
use Rattle.run_law.specs.Journals.{slice_at}
use Rattle.journal_check.proofs.after_commands.are_after_commands.Given as goal

abbrev pub invariant-loop-i : goal.invariant-loop-i
invariant-loop-i l = (k : ℕ) → k < l.i → IsAfterCommands l.script l.j.tree (slice_at l.j k)
