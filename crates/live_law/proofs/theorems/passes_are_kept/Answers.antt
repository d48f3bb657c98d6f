use Rattle.live_law.proofs.laws.LaterViews.{AreEnded-grown}
use Rattle.live_law.proofs.laws.Passes.{HasEnded-passes, IsReady-begin, PassesKeep-end, PassesKeep-more, PassesKeep-opening}
use Rattle.live_law.proofs.theorems.passes_are_kept.Goals as goal

pub returns : goal.returns
returns c = record {
  opening = PassesKeep-opening;
  see_more = PassesKeep-more;
  thread_ends = HasEnded-passes;
  ends_are_kept = AreEnded-grown;
  op_begins = IsReady-begin;
  op_ends = PassesKeep-end;
}
