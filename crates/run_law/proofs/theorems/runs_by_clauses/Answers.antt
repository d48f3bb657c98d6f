use Rattle.run_law.proofs.ClauseRuns.{run_by_clauses}
use Rattle.run_law.proofs.theorems.runs_by_clauses.Goals as goal

pub returns : goal.returns
returns c = run_by_clauses
