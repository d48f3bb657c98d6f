use Rattle.plan_top.specs.CurveForms.{filtering_of}
use Rattle.plan_top.proofs.program.CurveFormStreamProgram.finish.Goals as goal

pub returns-in-Err : goal.returns-in-Err
returns-in-Err c = λ bytes read. c.refuse.ensures c.args.self.now bytes (c.in-Err.ensures (filtering_of c.args.self.now) bytes read)
