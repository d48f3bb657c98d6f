use Rattle.pair_report.proofs.PlayedRuns.{length-level_replies}
use Rattle.pair_report.proofs.level.level_report.Goals as goal

pub push_commands-requires-clause-answered : goal.push_commands-requires-clause-answered
push_commands-requires-clause-answered c = length-level_replies c.args.script.now c.args.journals.now.replies.now c.args.journals.now.l2.now c.args.journals.now.l3.now c.requires.played
