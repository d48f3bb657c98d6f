use Rattle.plan_top.specs.Shares.{asked_by}
use Rattle.plan_top.proofs.share.ShareFormStreamProgram.finish.Goals as goal

pub returns-in-Err : goal.returns-in-Err
returns-in-Err c = λ bytes read. c.refuse.ensures c.args.self.now bytes (c.in-Err.ensures.played (asked_by c.args.self.now) bytes read)
