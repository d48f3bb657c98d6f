use Rattle.live_run.proofs.seen.take_unless.Goals as goal
use Rattle.live_run.specs.Cells.{pass_in}
use Rattle.seen_journal.proofs.laws.Prefixes.{IsPrefix-self}

pub returns-then-current-clause-grown : goal.returns-then-current-clause-grown
returns-then-current-clause-grown g c = λ i. IsPrefix-self (pass_in c.args.slices.now.items i).seen
