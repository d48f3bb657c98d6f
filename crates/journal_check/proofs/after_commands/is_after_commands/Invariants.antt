use Rattle.journal_check.specs.AfterCommands.{AreAfterUpTo, IsLatest}
use Rattle.journal_check.proofs.after_commands.is_after_commands.Given as goal

abbrev pub invariant-loop-entry : goal.invariant-loop-entry
invariant-loop-entry l = record {
  latest : IsLatest l.script l.entries l.entry-index l.latest;
  behind : AreAfterUpTo l.script l.j.tree l.entries l.entry-index;
}
