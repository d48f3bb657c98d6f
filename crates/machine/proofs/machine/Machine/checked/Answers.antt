use Rattle.std.proofs.Common.{◌∙◌, sym}
use Rattle.machine.proofs.laws.Ranges.{is_machine-true}
use Rattle.machine.proofs.machine.Machine.checked.Goals as goal

pub of-requires : goal.of-requires
of-requires c = is_machine-true c.args.parameters.now (sym c.are_in_range.ensures ∙ c.if-are_in_range.true)
