-- What a command's looks found is kept while other threads step, and is what the command is to be given.
use Rattle.std.proofs.Common.{◌≡◌, ◌≢◌, ℕ, ◌+◌, ◌*◌, ◌<◌, true, false, ◌⊎◌, inl, inr, List, [], ◌∷◌, ◌++◌, length, map, get_or, Option, Some, None, refl, sym, ap, ◌∙◌, subst}
use Rattle.std.specs.Prelude.{◌==◌, IsSome, nat_lt, slice_get}
use Rattle.std.proofs.lemmas.Bool.{MatchBool-at_false, MatchBool-at_true, cases_Bool}
use Rattle.std.proofs.lemmas.List.{length_push}
use Rattle.std.proofs.lemmas.Option.{same_Some}
use Rattle.lists.specs.Sums.{sum_below}
use Rattle.cache_core.specs.declared.entry.SliceEntry.{SliceEntry}
use Rattle.cache_core.specs.declared.entry.What.{What}
use Rattle.cache_core.specs.declared.entry.What.TheVariants as whats
use Rattle.rc_base.specs.declared.names.Tag.{Tag}
use Rattle.run_law.proofs.laws.TakenCommands.{fails}
use Rattle.run_law.proofs.laws.FreeTrees.{idle_not_begun}
use Rattle.run_law.specs.FoundLooks.{AreDistinct, HasFound, pairs_for}
use Rattle.run_law.specs.Growth.{IsKept}
use Rattle.run_law.specs.Ops.{phase_in}
use Rattle.run_law.specs.Journals.{At, JournalsValue, slice_at}
use Rattle.run_law.specs.Progress.{HasBegun, Progress}
use Rattle.run_law.specs.Truth.{is_made_by}
use Rattle.run_law.specs.Looks.{lines_looked}
use Rattle.run_law.specs.Owed.{undecided}
use Rattle.run_law.specs.TreeHistory.{TreeEntryValue, tree_after}
use Rattle.script_ops.specs.Values.{ScriptValue, op_at}
use Rattle.script_ops.specs.declared.op.Op.{Op}
use Rattle.script_ops.specs.declared.op.Op.TheVariants.{Access}
use Rattle.tree_law.specs.Steps.{needs}
use Rattle.run_law.proofs.laws.FoundLooks.{found_more, found_other, given, none_found}
use Rattle.run_law.proofs.laws.JobKinds.{pair_of_look}
use Rattle.run_law.proofs.laws.MatchedLooks.{not_by}
use Rattle.run_law.proofs.laws.Pairs.{both_eqb-true, both_eqb-same}
use Rattle.run_law.proofs.laws.GrownLists.{Adds, with_slices}
use Rattle.step_world.proofs.laws.MachineStates.{tree_can_be}
use Rattle.step_world.specs.Looked.{HasLooked}
use Rattle.step_world.specs.Machine.{Begins, Looks, MachineValue, Reaches, StepFrom, StepOf, Steps, TagsAgain, Takes, Touches, floor_for, thread_at}
use Rattle.step_world.specs.declared.thread_state.ThreadState.{ThreadState}
use Rattle.step_world.specs.declared.thread_state.ThreadState.TheVariants.{Following, Looking, Ready, Tagged}
use Rattle.step_world.specs.declared.thread_state.Thread.{Thread}
use Rattle.step_world.specs.Moments.{IsRunSoFar, progress_by, progress_in}

-- ---- a command has taken the tree

-- no look is made yet
pub take_looked : (script : ScriptValue) (t : ℕ) (op : Op) (old new : MachineValue) → (thread_at old t).state ≡ Ready → old.holder ≡ None → Takes t old new → IsRunSoFar script old → HasLooked script new t op []
take_looked script t op old new place free takes so_far =
    let n : ℕ = (thread_at old t).next in
    let kept : IsKept script old.journals (progress_in old) old.phase = so_far.kept old.journals.tree (tree_can_be old old.holder free) in
    let at : progress_in old t ≡ progress_by n Ready = ap (progress_by n) place in
    let none : (i p : ℕ) (e : SliceEntry) → At (slice_at old.journals i) p e → is_made_by t n e ≡ false = λ i p e there.
    fails (is_made_by t n e)
    (λ mine.
    let is = both_eqb-true e.thread t e.op n mine in
    idle_not_begun (progress_in old t) n (sym (ap (λ (x : Progress). x.next) at)) (ap (λ (x : Progress). x.made) at)
    (subst (λ v. HasBegun (progress_in old v) n) is.0 (subst (λ o. HasBegun (progress_in old e.thread) o) is.1 (kept.of_begun.entries i p e there)))) in
    let found : HasFound old.journals t n (pairs_for script new.journals.tree op) [] = none_found old.journals t n (pairs_for script new.journals.tree op) none in
    record {
      place = ap (λ (v : Thread). v.state) takes.moves.there;
      numbers = subst (λ m. HasFound new.journals t m (pairs_for script new.journals.tree op) []) (sym (ap (λ (v : Thread). v.next) takes.moves.there))
          (subst (λ j. HasFound j t n (pairs_for script new.journals.tree op) []) (sym takes.journals) found);
    }

-- ---- it looks once more

-- what pays for a look is a look
look_is : (w : What) (rmid : ℕ) → undecided w ≡ whats.Look rmid 0 → (lines : ℕ) × (w ≡ whats.Look rmid lines)
look_is (whats.Access hit way owner r mask line) rmid h = absurd cc
look_is whats.Raise rmid h = absurd cc
look_is (whats.Drop line at) rmid h = absurd cc
look_is whats.Flush rmid h = absurd cc
look_is (whats.Lock mask first_line) rmid h = absurd cc
look_is (whats.Look r lines) rmid h = (lines, let same : r ≡ rmid = cc in ap (λ x. whats.Look x lines) same)

-- one look more
pub look_looked : (script : ScriptValue) (t : ℕ) (op : Op) (old new : MachineValue) (found : List ℕ) → AreDistinct (pairs_for script old.journals.tree op) → HasLooked script old t op found
    → (looks : Looks script t (length found) op old new) → (lines : ℕ) × ((rmid : ℕ) × (looks.makes.entry.what ≡ whats.Look rmid lines)) × HasLooked script new t op (found ++ lines ∷ [])
look_looked script t op old new found distinct looked looks =
    let n : ℕ = (thread_at old t).next in
    let e : SliceEntry = looks.makes.entry in
    let notes = looks.makes.notes in
    let pays = looks.makes.pays in
    let (pair, there, slice, what) = pair_of_look script old.journals.tree op (length found) looks.job looks.there in
    let (lines, is) = look_is e.what pair.1 (ap (λ o. o.what) pays.owed ∙ sym what) in
    let adds : Adds old.journals new.journals.slices pair.0 e = subst (λ i. Adds old.journals new.journals.slices i e) (sym slice) notes.slices in
    let mine : is_made_by t n e ≡ true = both_eqb-same e.thread t e.op n pays.thread pays.op in
    let more : HasFound (with_slices old.journals new.journals.slices) t n (pairs_for script old.journals.tree op) (found ++ lines ∷ []) =
    found_more old.journals new.journals.slices e t n lines pair (pairs_for script old.journals.tree op) found adds mine is distinct there looked.numbers in (
      lines,
      (pair.1, is),
      record {
        place = ap (λ (v : Thread). v.state) looks.moves.there ∙ ap Looking (sym (length_push found lines));
        numbers = subst (λ m. HasFound new.journals t m (pairs_for script new.journals.tree op) (found ++ lines ∷ [])) (sym (ap (λ (v : Thread). v.next) looks.moves.there))
            (subst (λ hs. HasFound new.journals t n (pairs_for script hs op) (found ++ lines ∷ [])) (sym notes.tree) more);
      },
    )

-- ---- another thread steps

-- What another thread's step does while this one holds the tree: it makes no command, and its entries are its own.
pub record IsOtherStep (t u : ℕ) (old new : MachineValue) : Type 0 where
  pub tree : new.journals.tree ≡ old.journals.tree
  pub there : thread_at new t ≡ thread_at old t
  pub entries : (new.journals.slices ≡ old.journals.slices) ⊎ ((i : ℕ) × (e : SliceEntry) × Adds old.journals new.journals.slices i e × (e.thread ≡ u))

-- nothing happens
nothing : (t u : ℕ) (old new : MachineValue) → new ≡ old → IsOtherStep t u old new
nothing t u old new same = record {
  tree = ap (λ (s : MachineValue). s.journals.tree) same;
  there = ap (λ s. thread_at s t) same;
  entries = inl (ap (λ (s : MachineValue). s.journals.slices) same);
}

-- a touch
reaches_other : (script : ScriptValue) (t u : ℕ) (tag : Tag) (task cpu addr : ℕ) (old new : MachineValue) → t ≢ u → Reaches script u tag task cpu addr old new → IsOtherStep t u old new
reaches_other script t u tag task cpu addr old new apart reaches = elim (cases_Bool (nat_lt tag.epoch (floor_for script old tag addr))) [
  | inl below ↦
      let again = MatchBool-at_true (TagsAgain u old new) (Touches script u tag task cpu addr old new) below reaches in
      record { tree = ap (λ (j : JournalsValue). j.tree) again.journals; there = again.moves.others t apart; entries = inl (ap (λ (j : JournalsValue). j.slices) again.journals) }
  | inr fresh ↦
      let touches = MatchBool-at_false (TagsAgain u old new) (Touches script u tag task cpu addr old new) fresh reaches in
      record { tree = touches.notes.tree; there = touches.moves.others t apart; entries = inr (_, touches.entry, touches.notes.slices, touches.pays.thread) }
]

-- with a tag
tagged_other : (script : ScriptValue) (t u : ℕ) (op : Op) (tag : Tag) (old new : MachineValue) → t ≢ u → StepFrom script u op (Tagged tag) old new → IsOtherStep t u old new
tagged_other script t u (Access task cpu addr) tag old new apart reaches = reaches_other script t u tag task cpu addr old new apart reaches
tagged_other script t u op tag old new apart same = nothing t u old new same

-- Take or Tag
blocked : (script : ScriptValue) (t u : ℕ) (op : Op) (holder : Option ℕ) (old new : MachineValue) → holder ≡ Some t → Begins script u op holder old new → IsOtherStep t u old new
blocked script t u op (Some other) old new is same = nothing t u old new same
blocked script t u op None old new is begins = absurd cc

-- at each place
place_other : (script : ScriptValue) (t u : ℕ) (op : Op) (place : ThreadState) (old new : MachineValue) → t ≢ u → old.holder ≡ Some t → IsRunSoFar script old → (thread_at old u).state ≡ place
    → StepFrom script u op place old new → IsOtherStep t u old new
place_other script t u op Ready old new apart held so_far at begins = blocked script t u op old.holder old new held begins
place_other script t u op (Looking made) old new apart held so_far at step =
    let holds : IsSome (progress_in old u).made = subst (λ (x : Progress). IsSome x.made) (sym (ap (progress_by (thread_at old u).next) at)) refl in
    absurd (apart (same_Some t u (sym held ∙ (so_far.held u).0 holds)))
place_other script t u op (Following made) old new apart held so_far at step =
    let holds : IsSome (progress_in old u).made = subst (λ (x : Progress). IsSome x.made) (sym (ap (progress_by (thread_at old u).next) at)) refl in
    absurd (apart (same_Some t u (sym held ∙ (so_far.held u).0 holds)))
place_other script t u op (Tagged tag) old new apart held so_far at step = tagged_other script t u op tag old new apart step

-- of each op
op_other : (script : ScriptValue) (t u : ℕ) (o : Option Op) (old new : MachineValue) → t ≢ u → old.holder ≡ Some t → IsRunSoFar script old → StepOf script u o old new → IsOtherStep t u old new
op_other script t u None old new apart held so_far same = nothing t u old new same
op_other script t u (Some op) old new apart held so_far step = place_other script t u op (thread_at old u).state old new apart held so_far refl step

-- a step of another thread
pub other_step : (script : ScriptValue) (t u : ℕ) (old new : MachineValue) → t ≢ u → old.holder ≡ Some t → IsRunSoFar script old → Steps script u old new → IsOtherStep t u old new
other_step script t u old new apart held so_far step =
    let one : Type 0 = StepOf script u (op_at script u (thread_at old u).next) old new in
    elim (cases_Bool (phase_in script.phases u == old.phase)) [
      | inl here ↦ op_other script t u (op_at script u (thread_at old u).next) old new apart held so_far (MatchBool-at_true one (new ≡ old) here step)
      | inr away ↦ nothing t u old new (MatchBool-at_false one (new ≡ old) away step)
    ]

-- it leaves what the looks found
pub others_looked : (script : ScriptValue) (t u : ℕ) (op : Op) (old new : MachineValue) (found : List ℕ) → t ≢ u → IsRunSoFar script old → Steps script u old new → HasLooked script old t op found → HasLooked script new t op found
others_looked script t u op old new found apart so_far step looked =
    let n : ℕ = (thread_at old t).next in
    let pairs = pairs_for script old.journals.tree op in
    let holds : IsSome (progress_in old t).made = subst (λ (x : Progress). IsSome x.made) (sym (ap (progress_by n) looked.place)) refl in
    let other = other_step script t u old new apart ((so_far.held t).0 holds) so_far step in
    let now : HasFound new.journals t n pairs found = elim other.entries [
      | inl same ↦ subst (λ ss. HasFound (with_slices old.journals ss) t n pairs found) (sym same) looked.numbers
      | inr (i, e, adds, thread) ↦
          found_other old.journals new.journals.slices i e t n pairs found adds
          (not_by t n e (fails (is_made_by t n e) (λ mine. apart (sym (both_eqb-true e.thread t e.op n mine).0 ∙ thread)))) looked.numbers
    ] in
    record {
      place = ap (λ (v : Thread). v.state) other.there ∙ looked.place;
      numbers = subst (λ (v : Thread). HasFound new.journals t v.next (pairs_for script new.journals.tree op) found) (sym other.there)
          (subst (λ hs. HasFound new.journals t n (pairs_for script hs op) found) (sym other.tree) now);
    }

-- ---- it is given what its looks found

-- the counts that the command is given
pub looked_given : (script : ScriptValue) (s : MachineValue) (t : ℕ) (op : Op) (found : List ℕ) (h : TreeEntryValue) → HasLooked script s t op found → h.thread ≡ t → h.op ≡ (thread_at s t).next
    → length found ≡ length (needs script.machine (tree_after script s.journals.tree) op) * script.machine.slices → length h.looks ≡ length (needs script.machine (tree_after script s.journals.tree) op)
    → ((q : ℕ) → q < length (needs script.machine (tree_after script s.journals.tree) op) → slice_get h.looks q ≡ Some (sum_below script.machine.slices (λ x. get_or found (q * script.machine.slices + x) 0)))
    → map (λ n. Some n) h.looks ≡ map (lines_looked script s.journals h) (needs script.machine (tree_after script s.journals.tree) op)
looked_given script s t op found h looked thread number all count each =
    given script s.journals h (needs script.machine (tree_after script s.journals.tree) op) found h.looks
    (subst (λ v. HasFound s.journals v h.op (pairs_for script s.journals.tree op) found) (sym thread) (subst (λ o. HasFound s.journals t o (pairs_for script s.journals.tree op) found) (sym number) looked.numbers)) all count each
