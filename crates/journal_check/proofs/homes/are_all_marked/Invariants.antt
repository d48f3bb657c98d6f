use Rattle.std.proofs.Common.{ℕ, ◌<◌}
use Rattle.journal_check.specs.Homes.{HasMarks}
use Rattle.journal_check.specs.Tables.{row_of}
use Rattle.script_ops.specs.Values.{ops_of}
use Rattle.journal_check.proofs.homes.are_all_marked.Given as goal

abbrev pub invariant-loop-thread : goal.invariant-loop-thread
invariant-loop-thread l = (t : ℕ) → t < l.thread → HasMarks (ops_of l.script t) (row_of l.marks t)
