use Rattle.live_law.proofs.laws.AccessStages.{HoldsTag-grown, HoldsTag-tag, PassesKeepFrom-touch}
use Rattle.live_law.proofs.theorems.accesses_are_kept.Goals as goal

pub returns : goal.returns
returns c = record { tag = HoldsTag-tag; tag_stays = HoldsTag-grown; touch = PassesKeepFrom-touch }
