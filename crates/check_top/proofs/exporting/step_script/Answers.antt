use Rattle.check_top.proofs.SteppedPlays.{PlaysAs-stepped}
use Rattle.check_top.proofs.exporting.step_script.Goals as goal

pub returns-in-Ok : goal.returns-in-Ok
returns-in-Ok c = λ play has. c.export_of.ensures play has (PlaysAs-stepped play c.args.script.now c.in-Ok.journals c.in-Ok.ensures.play)
