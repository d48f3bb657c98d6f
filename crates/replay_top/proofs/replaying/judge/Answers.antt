use Rattle.replay_top.proofs.replaying.judge.Goals as goal

pub returns-in-Ok-No : goal.returns-in-Ok-No
returns-in-Ok-No c = λ bytes holds text. c.tell_clause.ensures.order bytes holds
