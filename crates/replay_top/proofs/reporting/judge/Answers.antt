use Rattle.replay_top.proofs.reporting.judge.Goals as goal

pub returns-in-Ok-No : goal.returns-in-Ok-No
returns-in-Ok-No c = λ bytes holds. c.tell_clause.ensures.report c.args.flags bytes holds
