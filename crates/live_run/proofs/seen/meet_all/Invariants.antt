use Rattle.live_run.proofs.seen.meet_all.Given as goal
use Rattle.live_run.specs.Steps.{HaveMet}

abbrev pub invariant-loop-i : goal.invariant-loop-i
invariant-loop-i l = HaveMet l.i l.initial.cell.items l.initial.mine.items l.cell.items l.mine.items
