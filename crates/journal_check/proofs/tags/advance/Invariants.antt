use Rattle.std.proofs.Common.{take}
use Rattle.journal_check.specs.CheckReplays.{IsReplayed}
use Rattle.journal_check.proofs.tags.advance.Given as goal

abbrev pub invariant-loop-k : goal.invariant-loop-k
invariant-loop-k l = IsReplayed l.script (take l.k l.j.tree) l.tree
