-- The parts of a thread in a turn of its access.
use Rattle.std.proofs.Common.{◌≡◌, ℕ, ◌+◌, true, [], ◌∷◌, Option, None, Some, refl, sym, ap, ◌∙◌}
use Rattle.atomic_table.specs.Seated.{TableId}
use Rattle.cache_core.specs.Stands.{entry}
use Rattle.cache_core.specs.declared.entry.What.TheVariants as whats
use Rattle.step_world.specs.declared.reached.Reached.{Reached}
use Rattle.live_run.specs.Names.{SeenValue}
use Rattle.live_run.specs.Sharing.{HasReached, HasStepped, IsResting, IsTagged, given_in, noted_tag}
use Rattle.live_run.specs.Steps.{HasTaken}
use Rattle.machine.specs.Maps.{line_of}
use Rattle.machine.specs.Slices.{slice_of_line}
use Rattle.rc_base.specs.declared.names.Tag.{Tag}
use Rattle.schedule_law.specs.LiveParts.{after, live_thread, resting_thread}
use Rattle.schedule_law.specs.declared.part.Happening.TheVariants as happenings
use Rattle.schedule_law.specs.declared.part.Part.{Part}
use Rattle.script_ops.specs.Values.{ScriptValue, op_at}
use Rattle.script_ops.specs.declared.op.Op.TheVariants.{Access}
use Rattle.shared_parts.specs.Parts.{parts_after}
use Rattle.shared_parts.specs.Shares.{ShareValue}
use Rattle.step_world.specs.declared.thread_state.ThreadState.TheVariants.{Tagged}

-- it has its tag
pub tagged_turn : (script : ScriptValue) (table : TableId) (i op task cpu addr : ℕ) (tag : Tag) (s met : SeenValue) (worker now : ShareValue Part) → IsResting table s.thread op true worker → op_at script s.thread op ≡ Some (Access task cpu addr)
    → HasTaken s met → HasStepped (happenings.Label (noted_tag task cpu tag)) worker now → i ≡ slice_of_line script.machine tag.domain (line_of addr) → IsTagged script table i op tag (line_of addr) met now
tagged_turn script table i op task cpu addr tag s met worker now resting is taken stepped here = record {
  task = task;
  cpu = cpu;
  addr = addr;
  found = resting.found;
  given = Some (noted_tag task cpu tag);
  share = record {
    table_is = stepped.0 ∙ resting.is.table_is;
    words = resting.is.words;
    parts_are = stepped.1 ∙ (ap (parts_after after (happenings.Label (noted_tag task cpu tag))) resting.is.parts_are ∙ ap (λ t. live_thread t op (Tagged tag) resting.found (Some (noted_tag task cpu tag)) ∷ []) (sym taken.thread));
  };
  is = ap (λ t. op_at script t op) taken.thread ∙ is;
  line_is = refl;
  slice_is = here;
}

-- it has touched, and is before its next op
pub touched_turn : (script : ScriptValue) (table : TableId) (i op line : ℕ) (tag : Tag) (r : Reached) (s met : SeenValue) (worker now : ShareValue Part) → IsTagged script table i op tag line met worker → HasTaken s met
    → HasReached met.thread op tag line (Some r) worker now → IsResting table s.thread (op + 1) true now
touched_turn script table i op line tag r s met worker now tagged taken stepped = record {
  found = tagged.found;
  given = tagged.given;
  is = record {
    table_is = stepped.0 ∙ tagged.share.table_is;
    words = tagged.share.words;
    parts_are = stepped.1 ∙ (ap (parts_after after (happenings.Touch (entry met.thread op tag.epoch (whats.Access r.hit r.way tag.owner tag.rmid tag.mask line)))) tagged.share.parts_are ∙ ap (λ t. resting_thread t (op + 1) true tagged.found tagged.given ∷ []) taken.thread);
  };
}

-- it is to tag again
pub stale_turn : (script : ScriptValue) (table : TableId) (i op line : ℕ) (tag : Tag) (s met : SeenValue) (worker now : ShareValue Part) → IsTagged script table i op tag line met worker → HasTaken s met
    → HasReached met.thread op tag line None worker now → IsResting table s.thread op true now
stale_turn script table i op line tag s met worker now tagged taken stepped = record {
  found = tagged.found;
  given = tagged.given;
  is = record {
    table_is = stepped.0 ∙ tagged.share.table_is;
    words = tagged.share.words;
    parts_are = stepped.1 ∙ (ap (parts_after after happenings.Again) tagged.share.parts_are ∙ ap (λ t. resting_thread t op true tagged.found tagged.given ∷ []) taken.thread);
  };
}

-- the tag that it was given stays
pub given_stays : (script : ScriptValue) (table : TableId) (i op line : ℕ) (tag : Tag) (reply : Option Reached) (s : SeenValue) (worker now : ShareValue Part) → IsTagged script table i op tag line s worker
    → HasReached s.thread op tag line reply worker now → given_in now.parts ≡ given_in worker.parts
given_stays script table i op line tag None s worker now tagged stepped = ap given_in (stepped.1 ∙ ap (parts_after after happenings.Again) tagged.share.parts_are) ∙ sym (ap given_in tagged.share.parts_are)
given_stays script table i op line tag (Some r) s worker now tagged stepped =
    ap given_in (stepped.1 ∙ ap (parts_after after (happenings.Touch (entry s.thread op tag.epoch (whats.Access r.hit r.way tag.owner tag.rmid tag.mask line)))) tagged.share.parts_are) ∙ sym (ap given_in tagged.share.parts_are)
