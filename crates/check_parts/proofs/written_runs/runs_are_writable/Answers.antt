use Rattle.check_parts.proofs.Runs.{runs_are_writable}
use Rattle.check_parts.proofs.written_runs.runs_are_writable.Goals as goal

pub returns : goal.returns
returns c = runs_are_writable
