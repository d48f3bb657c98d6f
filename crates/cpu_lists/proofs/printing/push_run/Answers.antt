use Rattle.std.proofs.Common.{◌≡◌, ◌+◌, length, decimal, arith, refl, ◌∙◌}
use Rattle.std.proofs.lemmas.Bool.{eq-eqb, ne_eqb}
use Rattle.cpu_lists.specs.Printed.{run_text}
use Rattle.cpu_lists.proofs.RunsOfSets.{length-decimal_short, length-run_text}
use Rattle.cpu_lists.proofs.printing.push_run.Goals as goal

pub push-requires : goal.push-requires
push-requires c = omega (arith, length-decimal_short c.args.run.first (omega arith))

pub push_dec-requires-then-run : goal.push_dec-requires-then-run
push_dec-requires-then-run c = omega (arith, length-decimal_short c.args.run.first (omega arith))

pub returns-then-run-clause-short : goal.returns-then-run-clause-short
returns-then-run-clause-short c =
    let apart = ne_eqb c.args.run.first c.args.run.last c.if-run.true in
    let text : length (run_text c.args.run) ≡ length (decimal c.args.run.first) + 1 + length (decimal c.args.run.last) = length-run_text c.args.run ∙ rw apart refl in
    omega (arith, length-decimal_short c.args.run.first (omega arith), length-decimal_short c.args.run.last c.requires.high)

pub returns-else-run-clause-short : goal.returns-else-run-clause-short
returns-else-run-clause-short c =
    let same = eq-eqb c.args.run.first c.args.run.last c.if-run.false in
    let text : length (run_text c.args.run) ≡ length (decimal c.args.run.first) = length-run_text c.args.run ∙ rw same refl in
    omega (arith, length-decimal_short c.args.run.first (omega arith))
