use Rattle.std.proofs.Common.{[]}
use Rattle.std.proofs.lemmas.Result.{IfOk-weaker}
use Rattle.way_curve.specs.Reading.{HasRead}
use Rattle.plan_top.specs.Beginnings.{HasNoBadLine}
use Rattle.plan_top.proofs.EndedLines.{HasNoBadLine-nil}
use Rattle.plan_top.proofs.program.CurveFormStreamProgram.begin.Goals as goal

pub returns-clause-good : goal.returns-clause-good
returns-clause-good c = IfOk-weaker c.create.result (λ trace. HasRead (record { levels = c.levels.result; sampling = record { sets = c.sample_sets.result; one_of = c.one_of.result; has_first = c.has_first.result } }) trace []) (λ _. HasNoBadLine []) (λ trace read. HasNoBadLine-nil) c.create.ensures.empty
