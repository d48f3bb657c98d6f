-- A step of any thread keeps a run so far.
use Rattle.std.proofs.Common.{◌≡◌, ℕ, ◌<◌, Bool, inl, inr, length, Option, Some, None, refl, sym, subst}
use Rattle.std.specs.Prelude.{◌==◌, nat_lt}
use Rattle.std.proofs.lemmas.Bool.{cases_Bool, eqb-true, ltb-false, MatchBool-at_false, MatchBool-at_true}
use Rattle.rc_base.specs.declared.names.Tag.{Tag}
use Rattle.run_law.specs.Ops.{phase_in}
use Rattle.script_ops.specs.Values.{ScriptValue, op_at}
use Rattle.script_ops.specs.declared.op.Op.{Op}
use Rattle.script_ops.specs.declared.op.Op.TheVariants.{Access}
use Rattle.run_law.specs.Jobs.{looks_of}
use Rattle.step_world.specs.Machine.{Begins, Decides, Looks, MachineValue, StepFrom, StepOf, Steps, TagsAgain, Touches, floor_for, thread_at}
use Rattle.step_world.specs.declared.thread_state.ThreadState.{ThreadState}
use Rattle.step_world.specs.declared.thread_state.ThreadState.TheVariants.{Ready, Looking, Following, Tagged}
use Rattle.step_world.specs.Moments.{IsRunSoFar}
use Rattle.step_world.proofs.LookSteps.{take_step, look_step}
use Rattle.step_world.proofs.CommandSteps.{follow_step, decide_step}
use Rattle.step_world.proofs.laws.AccessSteps.{tag_step, untag_step, touch_step}

-- ---- a step of any thread

-- nothing happens
pub idle_step : (script : ScriptValue) (old new : MachineValue) → new ≡ old → IsRunSoFar script old → IsRunSoFar script new
idle_step script old new same so_far = subst (λ s. IsRunSoFar script s) (sym same) so_far

-- Take or Tag
pub begin_step : (script : ScriptValue) (t : ℕ) (op : Op) (holder : Option ℕ) (old new : MachineValue) → phase_in script.phases t ≡ old.phase → op_at script t (thread_at old t).next ≡ Some op
    → (thread_at old t).state ≡ Ready → old.holder ≡ holder → Begins script t op holder old new → IsRunSoFar script old → IsRunSoFar script new
begin_step script t op (Some other) old new here is_op place held same so_far = idle_step script old new same so_far
begin_step script t (Access task cpu addr) None old new here is_op place held tags so_far = tag_step script t task cpu addr old new here is_op place held tags so_far
begin_step script t op None old new here is_op place held takes so_far = take_step script t op old new here is_op refl place held takes so_far

-- with a tag
pub tagged_step : (script : ScriptValue) (t : ℕ) (op : Op) (tag : Tag) (old new : MachineValue) → phase_in script.phases t ≡ old.phase → op_at script t (thread_at old t).next ≡ Some op
    → (thread_at old t).state ≡ Tagged tag → StepFrom script t op (Tagged tag) old new → IsRunSoFar script old → IsRunSoFar script new
tagged_step script t (Access task cpu addr) tag old new here is_op place reaches so_far =
    let stale : Bool = nat_lt tag.epoch (floor_for script old tag addr) in
    elim (cases_Bool stale) [
      | inl below ↦ untag_step script t tag old new here place (MatchBool-at_true (TagsAgain t old new) (Touches script t tag task cpu addr old new) below reaches) so_far
      | inr fresh ↦ touch_step script t tag task cpu addr old new here is_op place (MatchBool-at_false (TagsAgain t old new) (Touches script t tag task cpu addr old new) fresh reaches) so_far
    ]
tagged_step script t op tag old new here is_op place same so_far = idle_step script old new same so_far

-- while it looks
pub looking_step : (script : ScriptValue) (t : ℕ) (op : Op) (made : ℕ) (old new : MachineValue) → 0 < script.machine.slices → phase_in script.phases t ≡ old.phase → op_at script t (thread_at old t).next ≡ Some op
    → (thread_at old t).state ≡ Looking made → StepFrom script t op (Looking made) old new → IsRunSoFar script old → IsRunSoFar script new
looking_step script t op made old new some here is_op place step so_far =
    let all : ℕ = length (looks_of script old.journals.tree (length old.journals.tree) op) in
    elim (cases_Bool (nat_lt made all)) [
      | inl less ↦ look_step script t made op old new some here is_op place (MatchBool-at_true (Looks script t made op old new) (Decides script t made op old new) less step) so_far
      | inr more ↦ decide_step script t made op old new some here is_op place (ltb-false made all more) (MatchBool-at_false (Looks script t made op old new) (Decides script t made op old new) more step) so_far
    ]

-- at each place
pub place_step : (script : ScriptValue) (t : ℕ) (op : Op) (place : ThreadState) (old new : MachineValue) → 0 < script.machine.slices → phase_in script.phases t ≡ old.phase → op_at script t (thread_at old t).next ≡ Some op
    → (thread_at old t).state ≡ place → StepFrom script t op place old new → IsRunSoFar script old → IsRunSoFar script new
place_step script t op Ready old new some here is_op place step so_far = begin_step script t op old.holder old new here is_op place refl step so_far
place_step script t op (Looking made) old new some here is_op place step so_far = looking_step script t op made old new some here is_op place step so_far
place_step script t op (Following made) old new some here is_op place step so_far = follow_step script t made op old new some here is_op place step so_far
place_step script t op (Tagged tag) old new some here is_op place step so_far = tagged_step script t op tag old new here is_op place step so_far

-- of each op
pub op_step : (script : ScriptValue) (t : ℕ) (o : Option Op) (old new : MachineValue) → 0 < script.machine.slices → phase_in script.phases t ≡ old.phase → op_at script t (thread_at old t).next ≡ o
    → StepOf script t o old new → IsRunSoFar script old → IsRunSoFar script new
op_step script t None old new some here is_op same so_far = idle_step script old new same so_far
op_step script t (Some op) old new some here is_op step so_far = place_step script t op (thread_at old t).state old new some here is_op refl step so_far

-- each step of each thread
pub step_keeps : (script : ScriptValue) (t : ℕ) (old new : MachineValue) → 0 < script.machine.slices → Steps script t old new → IsRunSoFar script old → IsRunSoFar script new
step_keeps script t old new some step so_far =
    let one : Type 0 = StepOf script t (op_at script t (thread_at old t).next) old new in
    elim (cases_Bool (phase_in script.phases t == old.phase)) [
      | inl here ↦
          op_step script t (op_at script t (thread_at old t).next) old new some (eqb-true (phase_in script.phases t) old.phase here) refl (MatchBool-at_true one (new ≡ old) here step) so_far
      | inr away ↦ idle_step script old new (MatchBool-at_false one (new ≡ old) away step) so_far
    ]
