use Rattle.check_parts.proofs.BadInputs.{bad_inputs_are_one}
use Rattle.check_parts.proofs.theorems.bad_inputs_are_one.Goals as goal

pub returns : goal.returns
returns c = bad_inputs_are_one c.bad_lines_are_one.ensures
