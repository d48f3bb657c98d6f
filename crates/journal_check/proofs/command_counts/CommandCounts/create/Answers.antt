use Rattle.journal_check.proofs.CountedCommands.{AreCountsToTwo-nil}
use Rattle.journal_check.proofs.command_counts.CommandCounts.create.Goals as goal

pub returns : goal.returns
returns c = AreCountsToTwo-nil c.args.script.now c.in_ok-table.table c.in_ok-table.ensures.table c.in_ok-table.ensures.zero
