use Rattle.pair_text.specs.declared.side.Side.TheVariants.{First, Second}
use Rattle.pair_report.proofs.PlayedRuns.{few-l2, few-l3, length-l2, length-l3, length-level_replies, one-slice}
use Rattle.pair_report.proofs.level.push_counted.Goals as goal

pub made_groups-requires-clause-answered : goal.made_groups-requires-clause-answered
made_groups-requires-clause-answered c = length-level_replies c.args.script.now c.args.journals.now.replies.now c.args.journals.now.l2.now c.args.journals.now.l3.now c.requires

pub counts_on-requires-clause-one_slice : goal.counts_on-requires-clause-one_slice
counts_on-requires-clause-one_slice c = one-slice c.args.script.now c.args.journals.now.replies.now c.args.journals.now.l2.now c.args.journals.now.l3.now c.requires First

pub counts_on-requires-clause-few : goal.counts_on-requires-clause-few
counts_on-requires-clause-few c = few-l2 c.args.script.now c.args.journals.now.replies.now c.args.journals.now.l2.now c.args.journals.now.l3.now c.requires

pub counts_on-requires-2-clause-one_slice : goal.counts_on-requires-2-clause-one_slice
counts_on-requires-2-clause-one_slice c = one-slice c.args.script.now c.args.journals.now.replies.now c.args.journals.now.l2.now c.args.journals.now.l3.now c.requires Second

pub counts_on-requires-2-clause-few : goal.counts_on-requires-2-clause-few
counts_on-requires-2-clause-few c = few-l3 c.args.script.now c.args.journals.now.replies.now c.args.journals.now.l2.now c.args.journals.now.l3.now c.requires

pub push_lines-requires-clause-l2_each : goal.push_lines-requires-clause-l2_each
push_lines-requires-clause-l2_each c = length-l2 c.args.script.now c.args.journals.now.replies.now c.args.journals.now.l2.now c.args.journals.now.l3.now c.requires

pub push_lines-requires-clause-l3_each : goal.push_lines-requires-clause-l3_each
push_lines-requires-clause-l3_each c = length-l3 c.args.script.now c.args.journals.now.replies.now c.args.journals.now.l2.now c.args.journals.now.l3.now c.requires
