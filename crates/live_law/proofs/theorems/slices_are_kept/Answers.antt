use Rattle.live_law.proofs.laws.SliceCells.{MayStand-follow, MayStand-look, MayStand-touch, SliceKeeps-longer, SliceKeeps-push, floor_of-past}
use Rattle.live_law.proofs.theorems.slices_are_kept.Goals as goal

pub returns : goal.returns
returns c = record {
  sees_more = SliceKeeps-longer;
  adds_entry = SliceKeeps-push;
  floor = floor_of-past;
  look = MayStand-look;
  follow = MayStand-follow;
  touch = MayStand-touch;
}
