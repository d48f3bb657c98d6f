use Rattle.std.proofs.Common.{arith}
use Rattle.way_curve.proofs.RunTotals.{run-parts}
use Rattle.way_curve.proofs.distances.count_run.Goals as goal

pub add-requires-then-rows-gt0 : goal.add-requires-then-rows-gt0
add-requires-then-rows-gt0 c = record { room = omega (arith, run-parts c.args.sets c.args.lines c.requires.some, c.add.ensures.total, c.requires.room) }

pub returns-then-rows-gt0-clause-total : goal.returns-then-rows-gt0-clause-total
returns-then-rows-gt0-clause-total c =
    omega (arith, run-parts c.args.sets c.args.lines c.requires.some, c.add.ensures.total, c.add-then-rows-gt0.ensures.total)
