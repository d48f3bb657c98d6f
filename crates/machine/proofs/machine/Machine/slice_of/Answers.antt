use Rattle.std.proofs.Common.{◌∙◌, ap, sym, bit_and}
use Rattle.machine.proofs.Powers.{and-below_power}
use Rattle.machine.proofs.laws.WholeSets.{slice_of-set_of}
use Rattle.machine.specs.Maps.{parameters_of}
use Rattle.machine.proofs.machine.Machine.slice_of.Goals as goal

pub returns-clause-line : goal.returns-clause-line
returns-clause-line c =
    let m = c.args.self.now in
    ap (λ n. bit_and c.args.line n) c.from.ensures ∙ and-below_power c.args.line m.slices m.in_range.slice_power

pub returns-clause-slice : goal.returns-clause-slice
returns-clause-slice c =
    returns-clause-line c ∙ sym (slice_of-set_of (parameters_of c.args.self.now) c.args.self.now.in_range c.args.line)
