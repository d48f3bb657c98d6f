use Rattle.std.proofs.Common.{[], length}
use Rattle.std.proofs.lemmas.Result.{IfOk-weaker}
use Rattle.share_plans.specs.Reading.{HasRead}
use Rattle.plan_top.specs.Shares.{HasNoBadTurn}
use Rattle.plan_top.proofs.EndedTurns.{HasNoBadTurn-nil}
use Rattle.plan_top.proofs.share.ShareFormStreamProgram.begin.Goals as goal

pub returns-clause-good : goal.returns-clause-good
returns-clause-good c = IfOk-weaker c.create.result (λ stream. HasRead (record { levels = c.levels.result; asked = record { programs = length c.wishes.result.now; sets = c.sets.result; ways = c.ways.result } }) stream [])
    (λ _. HasNoBadTurn c.args.self.now []) (λ stream read. HasNoBadTurn-nil c.args.self.now) c.create.ensures.empty
