use Rattle.resctrl_top.proofs.SteppedPlays.{PlaysAs-stepped}
use Rattle.resctrl_top.proofs.playing.play.Goals as goal

pub report_on-requires-clause-plays : goal.report_on-requires-clause-plays
report_on-requires-clause-plays c = PlaysAs-stepped c.args.form.command c.args.script.now c.in-Ok.journals c.in-Ok.ensures.play
