use Rattle.pair_windows.proofs.level_walks.take_segment.Goals as goal

pub returns-clause-walked : goal.returns-clause-walked
returns-clause-walked c = λ from after all. c.in_ok-take_ops.ensures.walked from after (c.in_ok-begin_all.ensures.begun c.args.script.now c.args.hits.now from c.requires.taken after all)
