-- A row of the machine is a step of its thread, and what a program changes is what a row says.
use Rattle.std.proofs.Common.{◌≡◌, ◌≢◌, ℕ, ◌<◌, ◌≤◌, Bool, true, false, inl, inr, List, [], ◌∷◌, ◌++◌, length, get_or, set, Option, Some, None, refl, sym, ap, ◌∙◌, subst}
use Rattle.std.specs.Prelude.{◌==◌, IsTrue, MatchBool, nat_lt}
use Rattle.std.proofs.lemmas.Bool.{cases_Bool, eq-eqb, eqb-false, eqb-true, le-ltb, lt-ltb, ne_eqb}
use Rattle.std.proofs.lemmas.List.{append-nil, get_or-set_other, get_or-set_same, length-set}
use Rattle.cache_core.specs.declared.entry.SliceEntry.{SliceEntry}
use Rattle.rc_base.specs.declared.names.Tag.{Tag}
use Rattle.run_law.specs.Ops.{is_command, phase_in}
use Rattle.run_law.specs.Journals.{JournalsValue, slice_at}
use Rattle.script_ops.specs.Values.{ScriptValue, op_at}
use Rattle.script_ops.specs.declared.op.Op.{Op}
use Rattle.script_ops.specs.declared.op.Op.TheVariants.{Access}
use Rattle.run_law.proofs.laws.GrownLists.{Adds}
use Rattle.run_law.specs.Jobs.{looks_of}
use Rattle.step_world.specs.Machine.{Begins, Decides, Follows, Looks, MachineValue, Moves, StepFrom, StepOf, Steps, Tags, TagsAgain, Takes, Touches, floor_for, opening_thread, thread_at}
use Rattle.step_world.specs.declared.thread_state.ThreadState.{ThreadState}
use Rattle.step_world.specs.declared.thread_state.ThreadState.TheVariants.{Following, Looking, Ready, Tagged}
use Rattle.step_world.specs.declared.thread_state.Thread.{Thread}

-- ---- what a program changes

-- one thread's place is set
pub moves_set : (old new : MachineValue) (t : ℕ) (now : Thread) → t < length old.threads → new.threads ≡ set old.threads t now → new.phase ≡ old.phase → Moves t now old new
moves_set old new t now within threads phase = record {
  phase = phase;
  count = ap length threads ∙ length-set old.threads t now;
  there = ap (λ ts. get_or ts t opening_thread) threads ∙ get_or-set_same old.threads t now opening_thread within;
  others = λ u apart. ap (λ ts. get_or ts u opening_thread) threads ∙ get_or-set_other old.threads t u now opening_thread apart;
}

-- one slice's list has an entry more
pub adds_set : (j : JournalsValue) (slices : List (List SliceEntry)) (i : ℕ) (e : SliceEntry) → i < length j.slices → slices ≡ set j.slices i (slice_at j i ++ e ∷ []) → Adds j slices i e
adds_set j slices i e within is k = elim (cases_Bool (k == i)) [
  | inl here ↦
      let same : k ≡ i = eqb-true k i here in
      rw here
      (ap (λ ss. get_or ss k []) is
      ∙ (ap (λ x. get_or (set j.slices i (slice_at j i ++ e ∷ [])) x []) same ∙ (get_or-set_same j.slices i (slice_at j i ++ e ∷ []) [] within ∙ ap (λ x. slice_at j x ++ e ∷ []) (sym same))))
  | inr away ↦
      rw away (ap (λ ss. get_or ss k []) is ∙ (get_or-set_other j.slices i k (slice_at j i ++ e ∷ []) [] (eqb-false k i away) ∙ sym (append-nil (slice_at j k))))
]

-- ---- which row a step is

-- where a test passes
at_true : (b : Bool) (P Q : Type 0) → b ≡ true → P → MatchBool b P Q
at_true b P Q is p = subst (λ x. MatchBool x P Q) (sym is) p

-- where it fails
at_false : (b : Bool) (P Q : Type 0) → b ≡ false → Q → MatchBool b P Q
at_false b P Q is q = subst (λ x. MatchBool x P Q) (sym is) q

-- a thread of another phase
pub step_of_another : (script : ScriptValue) (t : ℕ) (s : MachineValue) → phase_in script.phases t ≢ s.phase → Steps script t s s
step_of_another script t s apart = at_false (phase_in script.phases t == s.phase) (StepOf script t (op_at script t (thread_at s t).next) s s) (s ≡ s) (ne_eqb (phase_in script.phases t) s.phase apart) refl

-- a step of a thread of the present phase
in_step : (script : ScriptValue) (t : ℕ) (o : Option Op) (old new : MachineValue) → phase_in script.phases t ≡ old.phase → op_at script t (thread_at old t).next ≡ o → StepOf script t o old new → Steps script t old new
in_step script t o old new here is step =
    at_true (phase_in script.phases t == old.phase) (StepOf script t (op_at script t (thread_at old t).next) old new) (new ≡ old) (eq-eqb (phase_in script.phases t) old.phase here)
    (subst (λ x. StepOf script t x old new) (sym is) step)

-- a thread at its end
pub step_at_end : (script : ScriptValue) (t : ℕ) (s : MachineValue) → phase_in script.phases t ≡ s.phase → op_at script t (thread_at s t).next ≡ None → Steps script t s s
step_at_end script t s here is = in_step script t None s s here is refl

-- by its place
pub step_from : (script : ScriptValue) (t : ℕ) (op : Op) (place : ThreadState) (old new : MachineValue) → phase_in script.phases t ≡ old.phase → op_at script t (thread_at old t).next ≡ Some op
    → (thread_at old t).state ≡ place → StepFrom script t op place old new → Steps script t old new
step_from script t op place old new here is at step = in_step script t (Some op) old new here is (subst (λ p. StepFrom script t op p old new) (sym at) step)

-- by who holds the tree
begins_at : (script : ScriptValue) (t : ℕ) (op : Op) (holder : Option ℕ) (old new : MachineValue) → old.holder ≡ holder → Begins script t op holder old new → Begins script t op old.holder old new
begins_at script t op holder old new is begins = subst (λ o. Begins script t op o old new) (sym is) begins

-- Take or Tag while somebody holds the tree
pub step_blocked : (script : ScriptValue) (t : ℕ) (op : Op) (holder : ℕ) (s : MachineValue) → phase_in script.phases t ≡ s.phase → op_at script t (thread_at s t).next ≡ Some op
    → (thread_at s t).state ≡ Ready → s.holder ≡ Some holder → Steps script t s s
step_blocked script t op holder s here is at held = step_from script t op Ready s s here is at (begins_at script t op (Some holder) s s held refl)

-- a command takes the tree
takes_begins : (script : ScriptValue) (t : ℕ) (op : Op) (old new : MachineValue) → IsTrue (is_command op) → Takes t old new → Begins script t op None old new
takes_begins script t (Access task cpu addr) old new command takes = absurd cc
takes_begins script t op old new command takes = takes

-- Take
pub step_takes : (script : ScriptValue) (t : ℕ) (op : Op) (old new : MachineValue) → phase_in script.phases t ≡ old.phase → op_at script t (thread_at old t).next ≡ Some op → IsTrue (is_command op)
    → (thread_at old t).state ≡ Ready → old.holder ≡ None → Takes t old new → Steps script t old new
step_takes script t op old new here is command at free takes = step_from script t op Ready old new here is at (begins_at script t op None old new free (takes_begins script t op old new command takes))

-- Look
pub step_looks : (script : ScriptValue) (t made : ℕ) (op : Op) (old new : MachineValue) → phase_in script.phases t ≡ old.phase → op_at script t (thread_at old t).next ≡ Some op
    → (thread_at old t).state ≡ Looking made → made < length (looks_of script old.journals.tree (length old.journals.tree) op) → Looks script t made op old new → Steps script t old new
step_looks script t made op old new here is at less looks =
    let all : ℕ = length (looks_of script old.journals.tree (length old.journals.tree) op) in
    step_from script t op (Looking made) old new here is at (at_true (nat_lt made all) (Looks script t made op old new) (Decides script t made op old new) (lt-ltb made all less) looks)

-- Decide
pub step_decides : (script : ScriptValue) (t made : ℕ) (op : Op) (old new : MachineValue) → phase_in script.phases t ≡ old.phase → op_at script t (thread_at old t).next ≡ Some op
    → (thread_at old t).state ≡ Looking made → length (looks_of script old.journals.tree (length old.journals.tree) op) ≤ made → Decides script t made op old new → Steps script t old new
step_decides script t made op old new here is at all_made decides =
    let all : ℕ = length (looks_of script old.journals.tree (length old.journals.tree) op) in
    step_from script t op (Looking made) old new here is at (at_false (nat_lt made all) (Looks script t made op old new) (Decides script t made op old new) (le-ltb made all all_made) decides)

-- Follow
pub step_follows : (script : ScriptValue) (t made : ℕ) (op : Op) (old new : MachineValue) → phase_in script.phases t ≡ old.phase → op_at script t (thread_at old t).next ≡ Some op
    → (thread_at old t).state ≡ Following made → Follows script t made op old new → Steps script t old new
step_follows script t made op old new here is at follows = step_from script t op (Following made) old new here is at follows

-- Tag
pub step_tags : (script : ScriptValue) (t task cpu addr : ℕ) (old new : MachineValue) → phase_in script.phases t ≡ old.phase → op_at script t (thread_at old t).next ≡ Some (Access task cpu addr)
    → (thread_at old t).state ≡ Ready → old.holder ≡ None → Tags script t task cpu old new → Steps script t old new
step_tags script t task cpu addr old new here is at free tags = step_from script t (Access task cpu addr) Ready old new here is at (begins_at script t (Access task cpu addr) None old new free tags)

-- a stale tag
pub step_stale : (script : ScriptValue) (t task cpu addr : ℕ) (tag : Tag) (old new : MachineValue) → phase_in script.phases t ≡ old.phase → op_at script t (thread_at old t).next ≡ Some (Access task cpu addr)
    → (thread_at old t).state ≡ Tagged tag → tag.epoch < floor_for script old tag addr → TagsAgain t old new → Steps script t old new
step_stale script t task cpu addr tag old new here is at below again =
    step_from script t (Access task cpu addr) (Tagged tag) old new here is at
    (at_true (nat_lt tag.epoch (floor_for script old tag addr)) (TagsAgain t old new) (Touches script t tag task cpu addr old new) (lt-ltb tag.epoch (floor_for script old tag addr) below) again)

-- Touch
pub step_touches : (script : ScriptValue) (t task cpu addr : ℕ) (tag : Tag) (old new : MachineValue) → phase_in script.phases t ≡ old.phase → op_at script t (thread_at old t).next ≡ Some (Access task cpu addr)
    → (thread_at old t).state ≡ Tagged tag → floor_for script old tag addr ≤ tag.epoch → Touches script t tag task cpu addr old new → Steps script t old new
step_touches script t task cpu addr tag old new here is at fresh touches =
    step_from script t (Access task cpu addr) (Tagged tag) old new here is at
    (at_false (nat_lt tag.epoch (floor_for script old tag addr)) (TagsAgain t old new) (Touches script t tag task cpu addr old new) (le-ltb tag.epoch (floor_for script old tag addr) fresh) touches)
