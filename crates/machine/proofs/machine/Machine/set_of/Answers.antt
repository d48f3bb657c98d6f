use Rattle.std.proofs.Common.{bit_and, ap, ◌∙◌, arith}
use Rattle.machine.proofs.Powers.{and-below_power}
use Rattle.machine.proofs.machine.Machine.set_of.Goals as goal

pub returns-clause-set : goal.returns-clause-set
returns-clause-set c =
    let m = c.args.self.now in
    ap (λ n. bit_and c.args.line n) c.from.ensures ∙ and-below_power c.args.line m.sets m.in_range.set_power

pub returns-clause-below : goal.returns-clause-below
returns-clause-below c =
    let some = c.args.self.now.in_range.some_set in
    let is = returns-clause-set c in
    omega (arith, is)
