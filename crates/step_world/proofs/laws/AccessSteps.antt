-- An access tags and touches.
use Rattle.std.proofs.Common.{◌≡◌, ℕ, ◌+◌, ◌≤◌, inl, inr, List, [], ◌∷◌, ◌++◌, length, Option, Some, None, refl, sym, ap, ◌∙◌, subst, arith}
use Rattle.std.specs.Prelude.{IsSome}
use Rattle.std.proofs.lemmas.List.{length_push}
use Rattle.cache_core.specs.declared.entry.SliceEntry.{SliceEntry}
use Rattle.machine.specs.Maps.{domain_of, line_of}
use Rattle.rc_base.specs.declared.names.Tag.{Tag}
use Rattle.rc_base.specs.declared.replies.Reply.TheVariants as replies
use Rattle.run_law.specs.Ops.{phase_in}
use Rattle.run_law.specs.Journals.{JournalsValue}
use Rattle.run_law.specs.Looks.{look_number}
use Rattle.run_law.specs.Owed.{owed_by_access}
use Rattle.machine.specs.Slices.{slice_of_line}
use Rattle.run_law.specs.TreeHistory.{TreeEntryValue, tree_after}
use Rattle.script_ops.specs.Values.{ScriptValue, op_at}
use Rattle.script_ops.specs.declared.op.Op.TheVariants.{Access}
use Rattle.run_law.proofs.laws.LongerHistories.{owed_access_front}
use Rattle.run_law.proofs.laws.LegalHistories.{legal_entry}
use Rattle.run_law.proofs.laws.MatchedLooks.{look_by_owed, not_look}
use Rattle.run_law.proofs.laws.OpMarks.{not_some}
use Rattle.run_law.proofs.laws.GrownLists.{Adds, with_tree}
use Rattle.step_world.proofs.laws.MachineStates.{can_be_is, can_be_same, can_be_tree, IsKept-same, nobody_holds, progress_moved, tree_can_be, where_now}
use Rattle.run_law.proofs.laws.ReadTags.{outside, tag_keeps, untag_keeps}
use Rattle.run_law.proofs.laws.FreeTrees.{idle}
use Rattle.run_law.proofs.laws.MadeAccesses.{touch_keeps}
use Rattle.step_world.specs.Machine.{Moves, MachineValue, Tags, TagsAgain, Touches, thread_at}
use Rattle.step_world.specs.declared.thread_state.ThreadState.{ThreadState}
use Rattle.step_world.specs.declared.thread_state.ThreadState.TheVariants.{Ready, Looking, Following, Tagged}
use Rattle.step_world.specs.declared.thread_state.Thread.{Thread}
use Rattle.run_law.specs.Growth.{tag_of, AreLegal, IsFree, IsKept}
use Rattle.run_law.specs.Progress.{Progress, moved}
use Rattle.step_world.specs.Moments.{CanBe, IsHeldBy, IsRunSoFar, WithClaim, progress_in}
use Rattle.step_world.proofs.StepParts.{place_of, held_same, looks_same, follows_same, not_looking, not_following, journals_are}

-- ---- Tag, and Tag again

-- a thread that holds nothing moves, and the tree's history can be what it could be
pub outside_can_be : (old new : MachineValue) (t : ℕ) (now : Thread) (all : List TreeEntryValue) → Moves t now old new → new.journals.tree ≡ old.journals.tree → new.holder ≡ old.holder
    → IsHeldBy old old.holder → (progress_in old t).made ≡ None → CanBe new new.holder all → CanBe old old.holder all
outside_can_be old new t now all moves tree holder held none can =
    can_be_same old new all old.holder tree
    (λ u is. moves.others u (λ same. not_some (progress_in old t).made none (subst (λ v. IsSome (progress_in old v).made) same ((held u).1 is))))
    (subst (λ o. CanBe new o all) holder can)

-- an access reads its tag
pub tag_step : (script : ScriptValue) (t task cpu addr : ℕ) (old new : MachineValue) → phase_in script.phases t ≡ old.phase → op_at script t (thread_at old t).next ≡ Some (Access task cpu addr)
    → (thread_at old t).state ≡ Ready → old.holder ≡ None → Tags script t task cpu old new → IsRunSoFar script old → IsRunSoFar script new
tag_step script t task cpu addr old new here is_op place free tags so_far =
    let n : ℕ = (thread_at old t).next in
    let tag : Tag = tag_of script.machine (tree_after script old.journals.tree) (length old.journals.tree) task cpu in
    let now : Thread = record { next = n; state = Tagged tag } in
    let tree : new.journals.tree ≡ old.journals.tree = ap (λ (j : JournalsValue). j.tree) tags.journals in
    let slices : new.journals.slices ≡ old.journals.slices = ap (λ (j : JournalsValue). j.slices) tags.journals in
    let nobody : (u : ℕ) → IsSome (progress_in old u).made → ⊥ = nobody_holds old so_far.held free in
    let was_at : progress_in old t ≡ idle n = place_of old t Ready place in
    let none : (progress_in old t).made ≡ None = ap (λ (x : Progress). x.made) was_at in
    let at : (u : ℕ) → progress_in new u ≡ moved (progress_in old) t (outside n (Some tag)) u = progress_moved old new t now tags.moves in
    record {
      legal = subst (λ j. AreLegal script j) (sym tags.journals) so_far.legal;
      held = held_same old new t (outside n (Some tag)) at refl none tags.holder so_far.held;
      looking = looks_same script old new t now tree (where_now old new t now tags.moves) (λ m c is is_c. absurd (not_looking (Tagged tag) m refl is)) so_far.looking;
      following = follows_same script old new t now tree (where_now old new t now tags.moves) (λ m k c is is_c last. absurd (not_following (Tagged tag) m refl is)) so_far.following;
      kept = λ all can.
          let same : all ≡ new.journals.tree = can_be_tree new new.holder all (tags.holder ∙ free) can in
          let was : IsKept script old.journals (progress_in old) old.phase = so_far.kept old.journals.tree (tree_can_be old old.holder free) in
          IsKept-same script old.journals.tree all old.journals.slices new.journals.slices (moved (progress_in old) t (outside n (Some tag))) (progress_in new) old.phase new.phase
          (same ∙ tree) slices at tags.moves.phase (tag_keeps script old.journals (progress_in old) old.phase t n task cpu addr here was_at is_op nobody was);
    }

-- it finds its tag stale
pub untag_step : (script : ScriptValue) (t : ℕ) (tag : Tag) (old new : MachineValue) → phase_in script.phases t ≡ old.phase → (thread_at old t).state ≡ Tagged tag → TagsAgain t old new
    → IsRunSoFar script old → IsRunSoFar script new
untag_step script t tag old new here place tags so_far =
    let n : ℕ = (thread_at old t).next in
    let now : Thread = record { next = n; state = Ready } in
    let tree : new.journals.tree ≡ old.journals.tree = ap (λ (j : JournalsValue). j.tree) tags.journals in
    let slices : new.journals.slices ≡ old.journals.slices = ap (λ (j : JournalsValue). j.slices) tags.journals in
    let was_at : progress_in old t ≡ outside n (Some tag) = place_of old t (Tagged tag) place in
    let none : (progress_in old t).made ≡ None = ap (λ (x : Progress). x.made) was_at in
    let at : (u : ℕ) → progress_in new u ≡ moved (progress_in old) t (idle n) u = progress_moved old new t now tags.moves in
    record {
      legal = subst (λ j. AreLegal script j) (sym tags.journals) so_far.legal;
      held = held_same old new t (idle n) at refl none tags.holder so_far.held;
      looking = looks_same script old new t now tree (where_now old new t now tags.moves) (λ m c is is_c. absurd (not_looking Ready m refl is)) so_far.looking;
      following = follows_same script old new t now tree (where_now old new t now tags.moves) (λ m k c is is_c last. absurd (not_following Ready m refl is)) so_far.following;
      kept = λ all can.
          IsKept-same script all all old.journals.slices new.journals.slices (moved (progress_in old) t (idle n)) (progress_in new) old.phase new.phase refl slices at tags.moves.phase
          (untag_keeps script (with_tree old.journals all) (progress_in old) old.phase t n tag here was_at
          (so_far.kept all (outside_can_be old new t now all tags.moves tree tags.holder so_far.held none can)));
    }

-- ---- Touch

-- the epoch of a tag is one of the history so far
pub tag_epoch : (script : ScriptValue) (old : MachineValue) (all : List TreeEntryValue) (epoch : ℕ) → CanBe old old.holder all → IsFree (progress_in old) all epoch → epoch ≤ length old.journals.tree
tag_epoch script old all epoch can free = elim (can_be_is old old.holder all can) [
  | inl same ↦ omega (arith, free.within, ap length same)
  | inr more ↦ omega (arith, free.before more.1 more.3, ap length more.2, length_push old.journals.tree more.0)
]

-- what an access owes is told by the history so far
pub touch_owed : (script : ScriptValue) (old : MachineValue) (all : List TreeEntryValue) (epoch task cpu addr : ℕ) → CanBe old old.holder all → IsFree (progress_in old) all epoch
    → owed_by_access script old.journals.tree epoch task cpu addr ≡ owed_by_access script all epoch task cpu addr
touch_owed script old all epoch task cpu addr can free = elim (can_be_is old old.holder all can) [
  | inl same ↦ ap (λ hs. owed_by_access script hs epoch task cpu addr) (sym same)
  | inr more ↦
      owed_access_front script old.journals.tree (more.0 ∷ []) epoch task cpu addr (tag_epoch script old all epoch can free)
      ∙ ap (λ hs. owed_by_access script hs epoch task cpu addr) (sym more.2)
]

-- a history that it can be, at a place
pub some_claim : (tree : List TreeEntryValue) (t next : ℕ) (place : ThreadState) → (all : List TreeEntryValue) × WithClaim tree t next place all
some_claim tree t next Ready = (tree, refl)
some_claim tree t next (Looking made) = let h : TreeEntryValue = record { thread = t; op = next; reply = replies.Ok; looks = [] } in (tree ++ h ∷ [], (h, refl, refl, refl))
some_claim tree t next (Following made) = (tree, refl)
some_claim tree t next (Tagged tag) = (tree, refl)

-- something that it can be
pub some_can_be : (s : MachineValue) (holder : Option ℕ) → (all : List TreeEntryValue) × CanBe s holder all
some_can_be s None = (s.journals.tree, refl)
some_can_be s (Some t) = some_claim s.journals.tree t (thread_at s t).next (thread_at s t).state

-- what an access owes has its epoch
pub access_epoch : (script : ScriptValue) (tree : List TreeEntryValue) (epoch task cpu addr : ℕ) → (owed_by_access script tree epoch task cpu addr).epoch ≡ epoch
unfolding owed_by_access
access_epoch script tree epoch task cpu addr = refl

-- and is no look
pub access_no_look : (script : ScriptValue) (tree : List TreeEntryValue) (epoch task cpu addr rmid : ℕ) → look_number rmid (owed_by_access script tree epoch task cpu addr).what ≡ None
unfolding owed_by_access
access_no_look script tree epoch task cpu addr rmid = refl

-- it makes its entry
pub touch_step : (script : ScriptValue) (t : ℕ) (tag : Tag) (task cpu addr : ℕ) (old new : MachineValue) → phase_in script.phases t ≡ old.phase → op_at script t (thread_at old t).next ≡ Some (Access task cpu addr)
    → (thread_at old t).state ≡ Tagged tag → Touches script t tag task cpu addr old new → IsRunSoFar script old → IsRunSoFar script new
touch_step script t tag task cpu addr old new here is_op place touches so_far =
    let n : ℕ = (thread_at old t).next in
    let now : Thread = record { next = n + 1; state = Ready } in
    let e : SliceEntry = touches.entry in
    let notes = touches.notes in
    let pays = touches.pays in
    let was_at : progress_in old t ≡ outside n (Some tag) = place_of old t (Tagged tag) place in
    let none : (progress_in old t).made ≡ None = ap (λ (x : Progress). x.made) was_at in
    let number : (progress_in old t).next ≡ n = ap (λ (x : Progress). x.next) was_at in
    let at : (u : ℕ) → progress_in new u ≡ moved (progress_in old) t (idle (n + 1)) u = progress_moved old new t now touches.moves in
    let its : op_at script t (progress_in old t).next ≡ Some (Access task cpu addr) = subst (λ o. op_at script t o ≡ Some (Access task cpu addr)) (sym number) is_op in
    let first = some_can_be old old.holder in
    let tag_is = ((so_far.kept first.0 first.1).tags t task cpu addr tag its (ap (λ (x : Progress). x.tag) was_at)).is in
    let domain : tag.domain ≡ domain_of script.machine cpu = ap (λ (x : Tag). x.domain) tag_is in
    let slice : ℕ = slice_of_line script.machine (domain_of script.machine cpu) (line_of addr) in
    let slice_is : slice_of_line script.machine tag.domain (line_of addr) ≡ slice = ap (λ d. slice_of_line script.machine d (line_of addr)) domain in
    let adds : Adds old.journals new.journals.slices slice e = subst (λ i. Adds old.journals new.journals.slices i e) slice_is notes.slices in
    let epoch : e.epoch ≡ tag.epoch = ap (λ o. o.epoch) pays.owed ∙ access_epoch script old.journals.tree tag.epoch task cpu addr in
    record {
      legal = subst (λ j. AreLegal script j) (journals_are old.journals new.journals notes.tree)
          (legal_entry script old.journals new.journals.slices (slice_of_line script.machine tag.domain (line_of addr)) e notes.slices notes.count notes.may
          (λ k h there. not_look h.thread h.op e (λ rmid. look_by_owed rmid e.what (ap (λ o. look_number rmid o.what) pays.owed ∙ access_no_look script old.journals.tree tag.epoch task cpu addr rmid))) so_far.legal);
      held = held_same old new t (idle (n + 1)) at refl none touches.holder so_far.held;
      looking = looks_same script old new t now notes.tree (where_now old new t now touches.moves) (λ m c is is_c. absurd (not_looking Ready m refl is)) so_far.looking;
      following = follows_same script old new t now notes.tree (where_now old new t now touches.moves) (λ m k c is is_c last. absurd (not_following Ready m refl is)) so_far.following;
      kept = λ all can.
          let could : CanBe old old.holder all = outside_can_be old new t now all touches.moves notes.tree touches.holder so_far.held none can in
          let was : IsKept script (with_tree old.journals all) (progress_in old) old.phase = so_far.kept all could in
          let free : IsFree (progress_in old) all tag.epoch = (was.tags t task cpu addr tag its (ap (λ (x : Progress). x.tag) was_at)).free in
          IsKept-same script all all new.journals.slices new.journals.slices (moved (progress_in old) t (idle (n + 1))) (progress_in new) old.phase new.phase refl refl at touches.moves.phase
          (touch_keeps script (with_tree old.journals all) (progress_in old) old.phase t n task cpu addr tag e new.journals.slices
          (record {
            here = here;
            place = was_at;
            is_op = is_op;
            pays = record { thread = pays.thread; op = pays.op; owed = pays.owed ∙ touch_owed script old all tag.epoch task cpu addr could free };
            epoch = epoch;
            adds = adds;
          }) was);
    }
