-- Each step of a live thread may happen to the parts that it has.
use Rattle.schedule_law.specs.Law.{StepsMayHappen}
use Rattle.schedule_law.proofs.AccessHappenings.{again_may_happen, label_may_happen, recall_may_happen, touch_may_happen}
use Rattle.schedule_law.proofs.CommandHappenings.{decide_may_happen, follow_may_happen, look_may_happen, take_may_happen}
use Rattle.schedule_law.proofs.PhaseHappenings.{begin_may_happen, end_may_happen, pass_may_happen}

-- all of them
pub steps_may_happen : StepsMayHappen
steps_may_happen script some = record {
  take = take_may_happen script some;
  look = look_may_happen script some;
  decide = decide_may_happen script some;
  follow = follow_may_happen script some;
  label = label_may_happen script some;
  recall = recall_may_happen script some;
  touch = touch_may_happen script some;
  again = again_may_happen script some;
  begin = begin_may_happen script;
  ends = end_may_happen script;
  pass = pass_may_happen script;
}
