use Rattle.resctrl_top.proofs.Performed.{Performs-played}
use Rattle.resctrl_top.proofs.programs.StepProgramProgram.perform.Goals as goal

pub returns-in-Ok : goal.returns-in-Ok
returns-in-Ok c = Performs-played c.args.self.now.form c.args.bytes.items c.play.result (c.play.ensures c.args.bytes.items c.in-Ok.ensures)

pub returns-in-Err-Bad : goal.returns-in-Err-Bad
returns-in-Err-Bad c = c.refuse.ensures c.args.self.now.form c.args.bytes.items (rw c.in-Err-Bad.field-0-is at c.in-Err-Bad.ensures)
