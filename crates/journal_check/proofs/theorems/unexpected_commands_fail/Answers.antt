use Rattle.journal_check.proofs.ExpectedCommands.{IsExpected-legal}
use Rattle.journal_check.proofs.theorems.unexpected_commands_fail.Goals as goal

pub returns : goal.returns
returns c script j k h lawful there stray once legal = stray (IsExpected-legal script j.tree k h lawful there legal once)
