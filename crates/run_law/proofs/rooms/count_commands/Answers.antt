use Rattle.std.proofs.Common.{arith, ap, length}
use Rattle.run_law.proofs.AccessQuotas.{commands_of-le, length-commands_in}
use Rattle.run_law.proofs.rooms.count_commands.Goals as goal

pub returns-clause-count : goal.returns-clause-count
returns-clause-count c = omega (arith, ap length c.commands.ensures, length-commands_in c.args.ops.now)

pub returns-clause-few : goal.returns-clause-few
returns-clause-few c = omega (arith, ap length c.commands.ensures, length-commands_in c.args.ops.now, commands_of-le c.args.ops.now, c.requires.few)
