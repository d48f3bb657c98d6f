use Rattle.std.proofs.Common.{arith}
use Rattle.json_report.proofs.commands.push_commands_part.Goals as goal

pub returns-then-quiet-clause-taken : goal.returns-then-quiet-clause-taken
returns-then-quiet-clause-taken g c = record { taken = c.requires.taken.taken; before = let first = c.requires.taken.before in omega (arith, first) }
