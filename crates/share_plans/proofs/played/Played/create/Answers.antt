use Rattle.share_plans.proofs.Plays.{HavePlayed-nil}
use Rattle.share_plans.proofs.played.Played.create.Goals as goal

pub returns-clause-empty : goal.returns-clause-empty
returns-clause-empty c = HavePlayed-nil _ c.in_ok-own.own.items c.in_ok-shared.shared c.in_ok-own.ensures.count c.in_ok-own.ensures.sets c.in_ok-own.ensures.hits c.in_ok-own.ensures.empty
    c.in_ok-shared.ensures.sets c.in_ok-shared.ensures.empty
