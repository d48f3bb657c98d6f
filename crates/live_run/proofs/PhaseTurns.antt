-- The threads of a phase, and who starts it, on the parts that they have.
use Rattle.std.proofs.Common.{◌≡◌, ℕ, ◌+◌, ◌<◌, ◌≤◌, inl, inr, true, List, Option, [], ◌∷◌, length, set, sym, ap, ◌∙◌, subst, arith}
use Rattle.std.proofs.lemmas.Bool.{cases_lt}
use Rattle.std.proofs.lemmas.List.{get_or-set_other, get_or-set_same, length-set}
use Rattle.atomic_table.specs.Seated.{TableId}
use Rattle.live_law.specs.DoneOps.{AreEnded}
use Rattle.live_run.proofs.FirstShares.{IsResting-known}
use Rattle.live_run.proofs.laws.Phases.{in_phase-before}
use Rattle.live_run.specs.Names.{PassesValue, SeenValue, seen_by}
use Rattle.live_run.specs.Passes.{PassesAreKept}
use Rattle.live_run.specs.Phases.{AreBegun, AreEndedIn, AreOfPhase, HaveEnded, IsEndedIn, IsOfPhase, no_passes, passes_at}
use Rattle.live_run.proofs.CachedTags.{IsNoted-same}
use Rattle.live_run.specs.Sharing.{given_in, IsAtPhase, IsShareOf, begun_in}
use Rattle.schedule_law.specs.declared.part.GivenTag.{GivenTag}
use Rattle.rc_base.specs.Buffers.{Looks, Roomy}
use Rattle.run_law.specs.Ops.{phase_in}
use Rattle.schedule_law.specs.LiveParts.{after, live_phase, resting_thread}
use Rattle.schedule_law.specs.LivePhases.{MayBegin, MayEnd, MayPass}
use Rattle.schedule_law.specs.declared.part.Happening.TheVariants as happenings
use Rattle.schedule_law.specs.declared.part.Part.{Part}
use Rattle.script_ops.specs.Values.{ScriptValue, first_thread}
use Rattle.shared_parts.specs.Parts.{parts_after}
use Rattle.shared_parts.specs.Shares.{ShareValue}
use Rattle.shared_parts.specs.Words.{word_of}

pub share_is_same : (a b : ShareValue Part) → a.table ≡ b.table → a.parts ≡ b.parts → a ≡ b
share_is_same a b table parts = λ j. record { table = table j; parts = parts j }

-- ---- one thread

module _ (script : ScriptValue) (table : TableId) (s : SeenValue) (n : ℕ) (lists : List Looks) (shown : Roomy) (share turn : ShareValue Part) (cached : Option GivenTag) (kept : PassesAreKept script table s n lists shown share cached) where
  abbrev pub passes_now : PassesValue
  passes_now = record { seen = s; next = n; shown = shown.bytes; begun = begun_in share.parts }

  pub same_table : turn.table ≡ table → turn.table ≡ share.table
  same_table is = is ∙ sym kept.share_is.is.table_is

  -- the tree's lock has a word of the table
  pub tree_lock_there : word_of 32 < share.table.words
  tree_lock_there = omega (arith, kept.share_is.is.words, ap (λ (t : TableId). t.words) kept.share_is.is.table_is)

  -- its phase has begun
  pub may_begin : IsOfPhase script table passes_now turn → MayBegin script turn.parts share.parts
  may_begin of = record {
    p = of.phase;
    ended = of.ended;
    t = s.thread;
    n = n;
    begun = begun_in share.parts;
    found = kept.share_is.found;
    given = kept.share_is.given;
    phase_is = of.share.parts_are;
    worker_is = kept.share_is.is.parts_are;
    low = of.low;
  }

  module _ (now : ShareValue Part) (same : now.table ≡ share.table) (stepped : now.parts ≡ parts_after after happenings.Begin share.parts) where
    begun_parts : now.parts ≡ resting_thread s.thread n true kept.share_is.found kept.share_is.given ∷ []
    begun_parts = stepped ∙ ap (parts_after after happenings.Begin) kept.share_is.is.parts_are

    pub is_begun : begun_in now.parts ≡ true
    is_begun = ap begun_in begun_parts

    pub begun_kept : AreEnded script (seen_by s) s.thread → PassesAreKept script table s n lists shown now cached
    begun_kept ended = record {
      keep = kept.keep;
      lists_are = kept.lists_are;
      room = kept.room;
      share_is = IsResting-known table s.thread n true kept.share_is.found kept.share_is.given now (record { table_is = same ∙ kept.share_is.is.table_is; words = kept.share_is.is.words; parts_are = begun_parts });
      ended = λ begun. ended;
      cached_is = kept.cached_is;
      noted = IsNoted-same share now cached (ap given_in begun_parts ∙ sym (ap given_in kept.share_is.is.parts_are)) kept.noted;
    }

  -- or it has the same part
  pub same_kept : (now : ShareValue Part) → now.table ≡ share.table → now.parts ≡ share.parts → PassesAreKept script table s n lists shown now cached
  same_kept now same parts = subst (λ x. PassesAreKept script table s n lists shown x cached) (sym (share_is_same now share same parts)) kept

  -- it is at its end
  pub may_end : IsEndedIn script table passes_now turn → MayEnd script turn.parts share.parts
  may_end ended = record {
    p = ended.phase;
    t = s.thread;
    begun = begun_in share.parts;
    found = kept.share_is.found;
    given = kept.share_is.given;
    phase_is = ended.share.parts_are;
    worker_is = kept.share_is.is.parts_are ∙ ap (λ m. resting_thread s.thread m (begun_in share.parts) kept.share_is.found kept.share_is.given ∷ []) ended.at_end;
  }

pub HaveEnded-one : (old new : ShareValue Part) → new.table ≡ old.table → new.parts ≡ parts_after after happenings.End old.parts → HaveEnded 1 old new
HaveEnded-one old new same stepped phase first is = (same, stepped ∙ ap (parts_after after happenings.End) is)

-- ---- each thread of a phase

module _ (script : ScriptValue) (table : TableId) (ps mid : List PassesValue) (turn : ShareValue Part) (k : ℕ) (there : k < length ps) (begun : AreBegun k ps mid) where
  -- the next is of the phase
  pub IsOfPhase-next : AreOfPhase script table ps turn → IsOfPhase script table (passes_at mid k) turn
  IsOfPhase-next all = record {
    phase = all.phase;
    ended = all.ended;
    share = all.share;
    low = subst (λ (p : PassesValue). phase_in script.phases p.seen.thread ≤ all.phase) (sym (begun.rest k (omega arith))) (all.each k there);
    earlier = subst (λ (p : PassesValue). AreEnded script (seen_by p.seen) p.seen.thread) (sym (begun.rest k (omega arith))) (all.earlier k there);
  }

  -- and then of one more the phase is known to have begun
  pub AreBegun-next : (x : PassesValue) → x ≡ (record (passes_at mid k) { begun = true }) → AreBegun (k + 1) ps (set mid k x)
  AreBegun-next x is = record {
    count = length-set mid k x ∙ begun.count;
    each = λ n less within. elim (cases_lt n k) [
      | inl before ↦ get_or-set_other mid k n x no_passes (λ same. absurd (omega (arith, before, same))) ∙ begun.each n before within
      | inr from ↦
          let same : k ≡ n = omega (arith, less, from) in
          let here : passes_at (set mid k x) k ≡ x = get_or-set_same mid k x no_passes (omega (arith, there, begun.count)) in
          let was : x ≡ (record (passes_at ps k) { begun = true }) = is ∙ ap (λ (p : PassesValue). record p { begun = true }) (begun.rest k (omega arith)) in
          subst (λ n. passes_at (set mid k x) n ≡ (record (passes_at ps n) { begun = true })) same (here ∙ was)
    ];
    rest = λ n from. get_or-set_other mid k n x no_passes (λ same. absurd (omega (arith, from, same))) ∙ begun.rest n (omega (arith, from));
  }

-- one more is known to be at its end
pub HaveEnded-next : (k : ℕ) (old mid new : ShareValue Part) → HaveEnded k old mid → HaveEnded 1 mid new → HaveEnded (k + 1) old new
HaveEnded-next k old mid new before last phase first is =
    let so_far = before phase first is in
    let now = last phase (first + k) so_far.1 in
    let same : first + k + 1 ≡ first + (k + 1) = omega arith in
    (now.0 ∙ so_far.0, now.1 ∙ ap (λ n. live_phase phase n ∷ []) same)

-- the next is at its end
pub IsEndedIn-next : (script : ScriptValue) (table : TableId) (ps : List PassesValue) (turn mid : ShareValue Part) (k : ℕ) → k < length ps → AreEndedIn script table ps turn → HaveEnded k turn mid → IsEndedIn script table (passes_at ps k) mid
IsEndedIn-next script table ps turn mid k there all had =
    let now = had all.phase all.first all.share.parts_are in
    record {
      phase = all.phase;
      share = record {
        table_is = now.0 ∙ all.share.table_is;
        words = all.share.words;
        parts_are = now.1 ∙ ap (λ n. live_phase all.phase n ∷ []) (sym (all.threads k there));
      };
      at_end = all.ended k there;
    }

-- ---- the next phase

-- all threads of a phase are at their ends
module _ (script : ScriptValue) (table : TableId) (phase ended : ℕ) (turn : ShareValue Part) (there : phase < length script.phases) (is : IsShareOf table (live_phase phase ended ∷ []) turn) (all : ended ≡ first_thread script (phase + 1)) where
  pub may_pass : MayPass script turn.parts
  may_pass = record {
    p = phase;
    ended = ended;
    phase_is = is.parts_are;
    all = λ t own. subst (λ n. t < n) (sym all) (in_phase-before script.phases phase t there own);
  }

  pub is_next : (now : ShareValue Part) → now.table ≡ turn.table → now.parts ≡ parts_after after happenings.Pass turn.parts → IsAtPhase script table (phase + 1) now
  is_next now same stepped = record {
    table_is = same ∙ is.table_is;
    words = is.words;
    parts_are = stepped ∙ (ap (parts_after after happenings.Pass) is.parts_are ∙ ap (λ n. live_phase (phase + 1) n ∷ []) all);
  }
