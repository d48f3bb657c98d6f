use Rattle.way_plans.proofs.CommandLines.{lines-commands}
use Rattle.way_plans.proofs.command_theorems.lines_are_commands.Goals as goal

pub returns : goal.returns
returns c = lines-commands
