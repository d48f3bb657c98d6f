use Rattle.pair_report.proofs.PlayedRuns.{length-replies}
use Rattle.pair_report.proofs.cdp.cdp_report.Goals as goal

pub push_commands-requires-clause-answered : goal.push_commands-requires-clause-answered
push_commands-requires-clause-answered c = length-replies c.args.script.now c.args.replies.now c.args.slices.now c.requires
