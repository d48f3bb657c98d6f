use Rattle.std.proofs.Common.{arith}
use Rattle.bit_usage.proofs.Lengths.{length-domain_text}
use Rattle.bit_usage.proofs.printing.print_domain.Goals as goal
use Rattle.num_text.proofs.laws.Prints.{length-decimal_digit}

pub returns-clause-spare : goal.returns-clause-spare
returns-clause-spare c =
    omega (arith, length-decimal_digit c.args.id c.requires.id, length-domain_text c.args.id c.args.ways c.args.used.now c.requires.id)

pub returns-clause-len : goal.returns-clause-len
returns-clause-len c = length-domain_text c.args.id c.args.ways c.args.used.now c.requires.id
