use Rattle.std.proofs.Common.{sym, ◌∙◌}
use Rattle.way_curve.proofs.Powers.{and-below_power}
use Rattle.way_curve.proofs.curve.set_of.Goals as goal

pub returns-then-is_power_of_two : goal.returns-then-is_power_of_two
returns-then-is_power_of_two c = and-below_power c.args.line c.args.sets (sym c.is_power_of_two.ensures ∙ c.if-is_power_of_two.true)
