-- What has ended stays ended, and who meets one that is at its end has seen so.
use Rattle.std.proofs.Common.{◌≡◌, ℕ, length, sym, ◌∙◌, subst}
use Rattle.live_law.proofs.laws.Passes.{HasEnded-passes, PassesKeep-more}
use Rattle.live_law.proofs.laws.SeenJournals.{HasGrown-more, HasGrown-through, SeesMore-through}
use Rattle.live_law.specs.DoneOps.{HasEnded}
use Rattle.live_law.specs.Passes.{PassesKeep}
use Rattle.live_law.specs.SeenJournals.{HasGrown, SeesMore}
use Rattle.live_run.specs.Names.{PassesValue, SeenValue, seen_by}
use Rattle.live_run.specs.Phases.{IsAtEnd, IsHanded}
use Rattle.live_run.specs.Steps.{HasTaken}
use Rattle.run_law.specs.Journals.{JournalsValue}
use Rattle.script_ops.specs.Values.{ScriptValue, ops_of}

module _ (script : ScriptValue) where
  -- for who has seen more
  pub HasEnded-grown : (v w : JournalsValue) (u : ℕ) → HasGrown v w → HasEnded script v u → HasEnded script w u
  HasEnded-grown v w u grown ended =
      let (start, before, done) = ended in
      (start, HasGrown-through start v w before grown, done)

  pub HasEnded-taken : (old new : SeenValue) (u : ℕ) → HasTaken old new → HasEnded script (seen_by old) u → HasEnded script (seen_by new) u
  HasEnded-taken old new u taken = HasEnded-grown (seen_by old) (seen_by new) u (HasGrown-more old.thread (seen_by old) (seen_by new) taken.sees)

  -- one that is at its end has met another
  pub HasEnded-met : (s now other : SeenValue) (n : ℕ) → PassesKeep script s.thread n (seen_by s) → HasTaken s now → seen_by now ≡ seen_by other → n ≡ length (ops_of script s.thread) → HasEnded script (seen_by other) s.thread
  HasEnded-met s now other n keeps taken same at =
      let later : PassesKeep script s.thread n (seen_by now) = PassesKeep-more script s.thread n (seen_by s) (seen_by now) taken.sees keeps in
      subst (λ v. HasEnded script v s.thread) same (HasEnded-passes script s.thread (seen_by now) (subst (λ n. PassesKeep script s.thread n (seen_by now)) at later))

  -- it is still at its end
  pub IsAtEnd-handed : (old new : PassesValue) → IsHanded old new → IsAtEnd script old → IsAtEnd script new
  IsAtEnd-handed old new handed at = subst (λ t. new.next ≡ length (ops_of script t)) (sym handed.taken.thread) (handed.next ∙ at)

pub HasTaken-through : (old mid new : SeenValue) → HasTaken old mid → HasTaken mid new → HasTaken old new
HasTaken-through old mid new first second = record {
  thread = second.thread ∙ first.thread;
  sees = SeesMore-through old.thread (seen_by old) (seen_by mid) (seen_by new) first.sees (subst (λ t. SeesMore t (seen_by mid) (seen_by new)) first.thread second.sees);
}

pub IsHanded-through : (old mid new : PassesValue) → IsHanded old mid → IsHanded mid new → IsHanded old new
IsHanded-through old mid new first second = record { taken = HasTaken-through old.seen mid.seen new.seen first.taken second.taken; next = second.next ∙ first.next }
