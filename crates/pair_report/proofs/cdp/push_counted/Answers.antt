use Rattle.pair_law.proofs.laws.Machines.{side_machine-slices}
use Rattle.pair_text.specs.declared.side.Side.TheVariants.{Second}
use Rattle.pair_report.proofs.PlayedRuns.{few-slices, length-replies, length-slices}
use Rattle.pair_report.proofs.cdp.push_counted.Goals as goal

pub made_groups-requires-clause-answered : goal.made_groups-requires-clause-answered
made_groups-requires-clause-answered c = length-replies c.args.script.now c.args.replies.now c.args.slices.now c.requires

pub counts_on-requires-clause-one_slice : goal.counts_on-requires-clause-one_slice
counts_on-requires-clause-one_slice c = side_machine-slices c.args.script.now.machines c.requires.playable.lawful.machines Second

pub counts_on-requires-clause-few : goal.counts_on-requires-clause-few
counts_on-requires-clause-few c = few-slices c.args.script.now c.args.replies.now c.args.slices.now c.requires

pub push_lines-requires-clause-one_each : goal.push_lines-requires-clause-one_each
push_lines-requires-clause-one_each c = length-slices c.args.script.now c.args.replies.now c.args.slices.now c.requires
