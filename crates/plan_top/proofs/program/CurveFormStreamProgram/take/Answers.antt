use Rattle.std.proofs.Common.{◌++◌}
use Rattle.plan_top.proofs.EndedLines.{HasNoBadLine-good}
use Rattle.plan_top.specs.CurveForms.{filtering_of}
use Rattle.plan_top.proofs.program.CurveFormStreamProgram.take.Goals as goal

pub returns-in_default-clause-taken : goal.returns-in_default-clause-taken
returns-in_default-clause-taken c = λ bytes read.
    let filtering = filtering_of c.args.self.now in
    let all = bytes ++ c.args.piece.now in
    let now = c.take.ensures.piece filtering bytes read in
    (now, HasNoBadLine-good filtering c.take.new.self all (c.bad_line.ensures.none c.in_default.is filtering all now))
