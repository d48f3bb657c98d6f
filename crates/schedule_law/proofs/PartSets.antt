-- What is among the parts of a step, and what the state has of them.
use Rattle.std.proofs.Common.{◌≡◌, inl, inr, ℕ, ◌<◌, ◌==◌, true, false, Bool, List, [], ◌∷◌, length, Option, Some, refl, sym, ◌∙◌, ap, subst}
use Rattle.std.specs.Prelude.{IsSome}
use Rattle.std.proofs.lemmas.Bool.{cases_Bool, cond-true, cond-false, true≢false}
use Rattle.std.proofs.lemmas.Option.{same_Some}
use Rattle.cache_core.specs.declared.entry.SliceEntry.{SliceEntry}
use Rattle.machine.specs.Slices.{slice_count}
use Rattle.run_law.proofs.laws.CountedOps.{thread_within}
use Rattle.run_law.specs.Journals.{slice_at}
use Rattle.run_law.specs.Ops.{phase_in}
use Rattle.run_law.specs.TreeHistory.{TreeEntryValue}
use Rattle.script_ops.specs.Values.{ScriptValue, op_at, threads_of}
use Rattle.script_ops.specs.declared.op.Op.{Op}
use Rattle.step_world.specs.Machine.{MachineValue, thread_at}
use Rattle.step_world.specs.declared.thread_state.Thread.{Thread}
use Rattle.schedule_law.specs.declared.part.GivenTag.{GivenTag}
use Rattle.schedule_law.specs.Parts.{AreReached, HappeningValue, PartValue, Slice, Tree, Worker, begun_after, history_after, holder_after, number_of_slice, number_of_thread, list_after, slice_part, thread_part, tree_part}
use Rattle.schedule_law.proofs.PartNumbers.{slice_not_phase, slice_not_thread, slice_not_tree, slice_same, thread_not_phase, thread_not_slice, thread_same, tree_not_slice, tree_not_thread}
use Rattle.shared_parts.proofs.laws.Parts.{has-first, has-later}
use Rattle.schedule_law.proofs.StepStates.{AreStepParts, next_state, phase_in-present, same_slices, so_far}
use Rattle.shared_parts.specs.Parts.{has}

-- a test of a list of one part
pub has-only : (k : ℕ) (x : ℕ × PartValue) → has k (x ∷ []) ≡ (x.0 == k)
has-only k x = elim (cases_Bool (x.0 == k)) [
  | inl h ↦ cond-true (x.0 == k) true false h ∙ sym h
  | inr h ↦ cond-false (x.0 == k) true false h ∙ sym h
]

-- the parts of a slice and of a thread: the tree is as it was
pub AreStepParts-slice : (e : HappeningValue) (t i : ℕ) (list : List SliceEntry) (v : Thread) (b : Bool) (f : List ℕ) (g : Option GivenTag) → ((x : Bool) → begun_after e x ≡ x)
    → ((hs : List TreeEntryValue) (holder : Option ℕ) → (history_after e hs ≡ hs) × (holder_after e holder ≡ holder))
    → AreStepParts e t i (slice_part i list ∷ thread_part t v b f g ∷ [])
AreStepParts-slice e t i list v b f g begun tree =
    let first = slice_part i list in
    let last = thread_part t v b f g in
    record {
      tree = λ _. tree;
      no_phase = has-later 1 first (last ∷ []) (slice_not_phase i) ∙ (has-only 1 last ∙ thread_not_phase t);
      slice = λ k h. elim (cases_Bool (number_of_slice i == number_of_slice k)) [
        | inl same ↦ sym (slice_same i k) ∙ same
        | inr other ↦ absurd (true≢false (sym h ∙ (has-later (number_of_slice k) first (last ∷ []) other ∙ (has-only (number_of_slice k) last ∙ thread_not_slice t k))))
      ];
      no_slice = λ k es h same. absurd (true≢false (sym (has-first (number_of_slice k) first (last ∷ []) (slice_same i k ∙ same)) ∙ h));
      thread = λ u. has-later (number_of_thread u) first (last ∷ []) (slice_not_thread i u) ∙ (has-only (number_of_thread u) last ∙ thread_same t u);
      begun = begun;
    }

-- the parts of the tree and of a thread: the slices are as they were
pub AreStepParts-tree : (e : HappeningValue) (t i : ℕ) (hs : List TreeEntryValue) (holder : Option ℕ) (v : Thread) (b : Bool) (f : List ℕ) (g : Option GivenTag) → ((x : Bool) → begun_after e x ≡ x) → ((es : List SliceEntry) → list_after e es ≡ es)
    → AreStepParts e t i (tree_part hs holder ∷ thread_part t v b f g ∷ [])
AreStepParts-tree e t i hs holder v b f g begun lists =
    let first = tree_part hs holder in
    let last = thread_part t v b f g in
    record {
      tree = λ h. absurd (true≢false (sym (has-first 0 first (last ∷ []) refl) ∙ h));
      no_phase = has-later 1 first (last ∷ []) refl ∙ (has-only 1 last ∙ thread_not_phase t);
      slice = λ k h. absurd (true≢false (sym h ∙ (has-later (number_of_slice k) first (last ∷ []) (tree_not_slice k) ∙ (has-only (number_of_slice k) last ∙ thread_not_slice t k))));
      no_slice = λ k es h same. lists es;
      thread = λ u. has-later (number_of_thread u) first (last ∷ []) (tree_not_thread u) ∙ (has-only (number_of_thread u) last ∙ thread_same t u);
      begun = begun;
    }

-- the parts of a slice, of the tree and of a thread
pub AreStepParts-both : (e : HappeningValue) (t i : ℕ) (list : List SliceEntry) (hs : List TreeEntryValue) (holder : Option ℕ) (v : Thread) (b : Bool) (f : List ℕ) (g : Option GivenTag) → ((x : Bool) → begun_after e x ≡ x)
    → AreStepParts e t i (slice_part i list ∷ tree_part hs holder ∷ thread_part t v b f g ∷ [])
AreStepParts-both e t i list hs holder v b f g begun =
    let first = slice_part i list in
    let next = tree_part hs holder in
    let last = thread_part t v b f g in
    record {
      tree = λ h. absurd (true≢false (sym (has-later 0 first (next ∷ last ∷ []) (slice_not_tree i) ∙ has-first 0 next (last ∷ []) refl) ∙ h));
      no_phase = has-later 1 first (next ∷ last ∷ []) (slice_not_phase i) ∙ (has-later 1 next (last ∷ []) refl ∙ (has-only 1 last ∙ thread_not_phase t));
      slice = λ k h. elim (cases_Bool (number_of_slice i == number_of_slice k)) [
        | inl same ↦ sym (slice_same i k) ∙ same
        | inr other ↦ absurd (true≢false (sym h ∙ (has-later (number_of_slice k) first (next ∷ last ∷ []) other ∙ (has-later (number_of_slice k) next (last ∷ []) (tree_not_slice k) ∙ (has-only (number_of_slice k) last ∙ thread_not_slice t k)))))
      ];
      no_slice = λ k es h same. absurd (true≢false (sym (has-first (number_of_slice k) first (next ∷ last ∷ []) (slice_same i k ∙ same)) ∙ h));
      thread = λ u. has-later (number_of_thread u) first (next ∷ last ∷ []) (slice_not_thread i u) ∙ (has-later (number_of_thread u) next (last ∷ []) (tree_not_thread u) ∙ (has-only (number_of_thread u) last ∙ thread_same t u));
      begun = begun;
    }

-- What the state has.

pub thread_at-part : (script : ScriptValue) (at : ℕ → PartValue) (r : AreReached script at) (t : ℕ) (v : Thread) (b : Bool) (f : List ℕ) (g : Option GivenTag) → at (number_of_thread t) ≡ Worker v b f g → (thread_at r.state t ≡ v) × (r.begun t ≡ b) × (r.found t ≡ f) × (r.given t ≡ g)
thread_at-part script at r t v b f g fit = let there = r.threads t in (cc, cc, cc, cc)

pub slice_at-part : (script : ScriptValue) (at : ℕ → PartValue) (r : AreReached script at) (i : ℕ) (list : List SliceEntry) → at (number_of_slice i) ≡ Slice list → slice_at r.state.journals i ≡ list
slice_at-part script at r i list fit = let there = r.slices i in cc

pub tree-part : (script : ScriptValue) (at : ℕ → PartValue) (r : AreReached script at) (hs : List TreeEntryValue) (holder : Option ℕ) → at 0 ≡ Tree hs holder → (r.state.journals.tree ≡ hs) × (r.state.holder ≡ holder)
tree-part script at r hs holder fit = let there = r.tree in (cc, cc)

-- what a thread that has an op left knows: it is there, it is of the present phase, and this is its op
pub record HasTurn (script : ScriptValue) (s : MachineValue) (t : ℕ) (v : Thread) (op : Op) : Type 0 where
  pub within : t < length s.threads
  pub phase : phase_in script.phases t ≡ s.phase
  pub is : op_at script t (thread_at s t).next ≡ Some op
  pub place : (thread_at s t).state ≡ v.state
  pub next : (thread_at s t).next ≡ v.next

pub HasTurn-op : (script : ScriptValue) → 0 < script.machine.slices → (at : ℕ → PartValue) (r : AreReached script at) (t : ℕ) (v : Thread) (op : Op) (f : List ℕ) (g : Option GivenTag) → at (number_of_thread t) ≡ Worker v true f g → op_at script t v.next ≡ Some op → HasTurn script r.state t v op
HasTurn-op script some at r t v op f g fit is =
    let here = thread_at-part script at r t v true f g fit in
    let op_is : op_at script t (thread_at r.state t).next ≡ Some op = ap (λ (x : Thread). op_at script t x.next) here.0 ∙ is in
    record {
      within = subst (λ n. t < n) (sym r.count) (thread_within (threads_of script) t v.next (subst (λ (o : Option Op). IsSome o) (sym is) refl));
      phase = phase_in-present script some r.state t op r.reached op_is (r.begins t here.1);
      is = op_is;
      place = ap (λ (x : Thread). x.state) here.0;
      next = ap (λ (x : Thread). x.next) here.0;
    }

-- a slice of the machine has a list
pub slice_within : (script : ScriptValue) → 0 < script.machine.slices → (at : ℕ → PartValue) (r : AreReached script at) (i : ℕ) → i < slice_count script.machine → i < length r.state.journals.slices
slice_within script some at r i low = subst (λ n. i < n) (sym (so_far script r.state some r.reached).legal.all_slices) low

-- where nothing is entered the journals are as they were
pub same_journals : (e : HappeningValue) (t i : ℕ) (s : MachineValue) → history_after e s.journals.tree ≡ s.journals.tree → ((es : List SliceEntry) → list_after e es ≡ es) → (next_state e t i s).journals ≡ s.journals
same_journals e t i s tree lists = λ j. record { tree = tree j; slices = same_slices e i s lists j }

-- a thread has one op at a time
pub same_op : (script : ScriptValue) (t n : ℕ) (op other : Op) → op_at script t n ≡ Some op → op_at script t n ≡ Some other → op ≡ other
same_op script t n op other is its = same_Some op other (sym is ∙ its)
