use Rattle.live_law.proofs.laws.CommandStages.{IsFollowing-decide, IsLooking-look, IsLooking-take}
use Rattle.live_law.proofs.laws.FollowStages.{IsFollowing-follow, PassesKeepFrom-let_go}
use Rattle.live_law.proofs.theorems.commands_are_kept.Goals as goal

pub returns : goal.returns
returns c = record {
  take = IsLooking-take;
  look = IsLooking-look;
  decide = IsFollowing-decide;
  follow = IsFollowing-follow;
  letting_go = PassesKeepFrom-let_go;
}
