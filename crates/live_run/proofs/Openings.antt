-- What a thread's passes keep from op to op.
use Rattle.std.proofs.Common.{◌≡◌, ℕ, ◌+◌, ◌<◌, ◌≤◌, ◌^◌, List, [], ◌∷◌, ◌++◌, length, drop, false, true, Bool, Option, Some, sym, ap, ◌∙◌, subst, arith}
use Rattle.std.specs.Prelude.{IsTrue}
use Rattle.std.proofs.lemmas.Option.{slice_get_within}
use Rattle.std.proofs.lemmas.List.{length_push, same_from_push}
use Rattle.atomic_table.specs.Seated.{TableId}
use Rattle.live_law.proofs.laws.LaterViews.{AreEnded-grown}
use Rattle.live_law.proofs.laws.Passes.{PassesKeep-more}
use Rattle.live_law.proofs.laws.SeenJournals.{HasGrown-more}
use Rattle.live_law.specs.DoneOps.{AreEnded}
use Rattle.live_law.specs.Passes.{PassesKeep}
use Rattle.live_law.specs.SeenJournals.{HasGrown}
use Rattle.live_run.proofs.CachedTags.{HoldsCached-grown}
use Rattle.live_run.specs.Commands.{HasReplied}
use Rattle.live_run.specs.Names.{PassesValue, SeenValue, seen_by}
use Rattle.live_run.specs.Passes.{PassesAreKept}
use Rattle.live_run.specs.Sharing.{IsResting, begun_in}
use Rattle.live_run.specs.Steps.{HasTaken}
use Rattle.schedule_law.specs.declared.part.GivenTag.{GivenTag}
use Rattle.rc_base.specs.Buffers.{Looks, Roomy}
use Rattle.rc_base.specs.declared.replies.Reply.{Reply}
use Rattle.run_law.proofs.laws.ReadyLists.{rooms_of-access, rooms_of-command}
use Rattle.run_law.specs.Journals.{JournalsValue}
use Rattle.run_law.specs.LookLists.{AreReady, rooms_of}
use Rattle.run_law.specs.Ops.{is_command}
use Rattle.run_law.specs.Quotas.{most_counts}
use Rattle.schedule_law.specs.declared.part.Part.{Part}
use Rattle.script_ops.proofs.laws.Weights.{length-get_or}
use Rattle.script_ops.specs.Values.{IsLawful, ScriptValue, op_at, ops_of, threads_of}
use Rattle.script_ops.specs.declared.limits.TheConstants.{MOST_WEIGHT}
use Rattle.script_ops.specs.declared.op.Op.{Op}
use Rattle.shared_parts.specs.Shares.{ShareValue}

-- what a thread has seen to have ended has ended
pub still_ended : (script : ScriptValue) (old new : JournalsValue) (t now : ℕ) → HasGrown old new → now ≡ t → AreEnded script old t → AreEnded script new now
still_ended script old new t now grown same ended = subst (AreEnded script new) (sym same) (AreEnded-grown script old new t grown ended)

-- they have seen more, and added nothing
pub passes_handed : (script : ScriptValue) (table : TableId) (old new : SeenValue) (n : ℕ) (lists : List Looks) (shown : Roomy) (share : ShareValue Part) (cached : Option GivenTag) → HasTaken old new → PassesAreKept script table old n lists shown share cached → PassesAreKept script table new n lists shown share cached
passes_handed script table old new n lists shown share cached taken kept = record {
  keep = subst (λ t. PassesKeep script t n (seen_by new)) (sym taken.thread) (PassesKeep-more script old.thread n (seen_by old) (seen_by new) taken.sees kept.keep);
  lists_are = subst (λ t. AreReady (rooms_of script.machine (drop n (ops_of script t))) lists) (sym taken.thread) kept.lists_are;
  room = kept.room;
  share_is = subst (λ t. IsResting table t n (begun_in share.parts) share) (sym taken.thread) kept.share_is;
  ended = λ begun. still_ended script (seen_by old) (seen_by new) old.thread new.thread (HasGrown-more old.thread (seen_by old) (seen_by new) taken.sees) taken.thread (kept.ended begun);
  cached_is = HoldsCached-grown script old new cached (HasGrown-more old.thread (seen_by old) (seen_by new) taken.sees) kept.cached_is;
  noted = kept.noted;
}

-- whether the phase of a thread is known to have begun stands in its share
pub resting_begun : (table : TableId) (t n : ℕ) (begun : Bool) (share : ShareValue Part) → IsResting table t n begun share → begun_in share.parts ≡ begun
resting_begun table t n begun share resting = ap begun_in resting.is.parts_are

-- the share of a thread between two ops, after an op
pub resting_after : (table : TableId) (t now n : ℕ) (share : ShareValue Part) → now ≡ t → IsResting table t n true share → IsResting table now n (begun_in share.parts) share
resting_after table t now n share same resting =
    subst (λ u. IsResting table u n (begun_in share.parts) share) (sym same) (subst (λ b. IsResting table t n b share) (sym (resting_begun table t n true share resting)) resting)

-- and before it
pub resting_before : (script : ScriptValue) (table : TableId) (s : SeenValue) (n : ℕ) (lists : List Looks) (shown : Roomy) (share : ShareValue Part) (cached : Option GivenTag) → PassesAreKept script table s n lists shown share cached → begun_in share.parts ≡ true → IsResting table s.thread n true share
resting_before script table s n lists shown share cached kept begun = subst (λ b. IsResting table s.thread n b share) begun kept.share_is

-- a reply does not hang on whether the phase is known to have begun
pub replied_in_phase : (script : ScriptValue) (asked : Bool) (c : Op) (reply : Reply) (old new : PassesValue) (before now : Bool) → HasReplied script asked c reply old new → HasReplied script asked c reply (record old { begun = before }) (record new { begun = now })
replied_in_phase script asked c reply old new before now replied = record {
  k = replied.k;
  h = replied.h;
  there = replied.there;
  thread = replied.thread;
  number = replied.number;
  noted = replied.noted;
  late = replied.late;
  reply_is = replied.reply_is;
  shown_is = replied.shown_is;
}

-- the number of the next op is none that is too great
pub next_few : (script : ScriptValue) (t n : ℕ) (op : Op) → IsLawful script → op_at script t n ≡ Some op → n + 1 < 2 ^ 32
next_few script t n op lawful is =
    let within = slice_get_within (ops_of script t) n op is in
    let few = length-get_or script.machine MOST_WEIGHT (threads_of script) t lawful.light in
    omega (arith, within, few)

-- ---- the lists for the counts

-- What the list of the next command is, and what the others are.
pub record IsListFor (script : ScriptValue) (t n : ℕ) (op : Op) (front : List Looks) (last : Looks) : Type 0 where
  pub empty : last.numbers ≡ []
  pub room : most_counts script.machine op ≤ last.spare
  pub rest : AreReady (rooms_of script.machine (drop (n + 1) (ops_of script t))) front

module _ (script : ScriptValue) (t n : ℕ) (op : Op) (lists : List Looks) (is : op_at script t n ≡ Some op) (command : IsTrue (is_command op)) (ready : AreReady (rooms_of script.machine (drop n (ops_of script t))) lists) where
  ready_now : AreReady (most_counts script.machine op ∷ rooms_of script.machine (drop (n + 1) (ops_of script t))) lists
  ready_now = subst (λ rooms. AreReady rooms lists) (rooms_of-command script.machine (ops_of script t) n op is command) ready

  -- there is one
  pub some_list : 0 < length lists
  some_list =
      let (front, last, is, empty, room, rest) = ready_now in
      omega (arith, ap length is, length_push front last)

  pub list_for : (front : List Looks) (last : Looks) → lists ≡ front ++ last ∷ [] → IsListFor script t n op front last
  list_for front last taken =
      let (fronts, lasts, is, empty, room, rest) = ready_now in
      let (first, second) = same_from_push fronts front lasts last (sym is ∙ taken) in
      record {
        empty = ap (λ (l : Looks). l.numbers) (sym second) ∙ empty;
        room = omega (arith, room, ap (λ (l : Looks). l.spare) second);
        rest = subst (λ ls. AreReady (rooms_of script.machine (drop (n + 1) (ops_of script t))) ls) first rest;
      }

-- an access needs none
pub lists_after_access : (script : ScriptValue) (t n : ℕ) (op : Op) (lists : List Looks) → op_at script t n ≡ Some op → is_command op ≡ false → AreReady (rooms_of script.machine (drop n (ops_of script t))) lists
    → AreReady (rooms_of script.machine (drop (n + 1) (ops_of script t))) lists
lists_after_access script t n op lists is access ready = subst (λ rooms. AreReady rooms lists) (rooms_of-access script.machine (ops_of script t) n op is access) ready
