-- A step moves one thread at most, and a thread at its end stays there.
use Rattle.std.proofs.Common.{◌≡◌, ℕ, ◌⊎◌, inl, inr, length, Option, Some, None, sym, ap, ◌∙◌, subst, arith}
use Rattle.std.specs.Prelude.{◌==◌, nat_lt}
use Rattle.std.proofs.lemmas.Bool.{MatchBool-at_false, MatchBool-at_true, cases_Bool, eqb-false, eqb-true}
use Rattle.std.proofs.lemmas.Option.{slice_get_past}
use Rattle.rc_base.specs.declared.names.Tag.{Tag}
use Rattle.run_law.specs.Ops.{phase_in}
use Rattle.script_ops.specs.Values.{ScriptValue, op_at, ops_of}
use Rattle.script_ops.specs.declared.op.Op.{Op}
use Rattle.script_ops.specs.declared.op.Op.TheVariants.{Access}
use Rattle.run_law.specs.Jobs.{looks_of}
use Rattle.step_world.specs.Machine.{Begins, Decides, Looks, MachineValue, Moves, Reaches, StepFrom, StepOf, Steps, TagsAgain, Touches, floor_for, thread_at}
use Rattle.step_world.specs.Schedules.{HasEnded}
use Rattle.step_world.specs.declared.thread_state.ThreadState.{ThreadState}
use Rattle.step_world.specs.declared.thread_state.ThreadState.TheVariants.{Following, Looking, Ready, Tagged}
use Rattle.step_world.specs.declared.thread_state.Thread.{Thread}

-- nothing has changed, or this thread is somewhere else now
abbrev pub HasMoved : ℕ → MachineValue → MachineValue → Type 0
HasMoved t old new = (new ≡ old) ⊎ ((now : Thread) × Moves t now old new)

-- Take or Tag
begins_moves : (script : ScriptValue) (t : ℕ) (op : Op) (holder : Option ℕ) (old new : MachineValue) → Begins script t op holder old new → HasMoved t old new
begins_moves script t op (Some other) old new same = inl same
begins_moves script t (Access task cpu addr) None old new tags = inr (_, tags.moves)
begins_moves script t op None old new takes = inr (_, takes.moves)

-- a touch
reaches_moves : (script : ScriptValue) (t : ℕ) (tag : Tag) (task cpu addr : ℕ) (old new : MachineValue) → Reaches script t tag task cpu addr old new → HasMoved t old new
reaches_moves script t tag task cpu addr old new reaches = elim (cases_Bool (nat_lt tag.epoch (floor_for script old tag addr))) [
  | inl below ↦ inr (_, (MatchBool-at_true (TagsAgain t old new) (Touches script t tag task cpu addr old new) below reaches).moves)
  | inr fresh ↦ inr (_, (MatchBool-at_false (TagsAgain t old new) (Touches script t tag task cpu addr old new) fresh reaches).moves)
]

-- with a tag
tagged_moves : (script : ScriptValue) (t : ℕ) (op : Op) (tag : Tag) (old new : MachineValue) → StepFrom script t op (Tagged tag) old new → HasMoved t old new
tagged_moves script t (Access task cpu addr) tag old new reaches = reaches_moves script t tag task cpu addr old new reaches
tagged_moves script t op tag old new same = inl same

-- at each place
place_moves : (script : ScriptValue) (t : ℕ) (op : Op) (place : ThreadState) (old new : MachineValue) → StepFrom script t op place old new → HasMoved t old new
place_moves script t op Ready old new begins = begins_moves script t op old.holder old new begins
place_moves script t op (Looking made) old new step = elim (cases_Bool (nat_lt made (length (looks_of script old.journals.tree (length old.journals.tree) op)))) [
  | inl less ↦ inr (_, (MatchBool-at_true (Looks script t made op old new) (Decides script t made op old new) less step).moves)
  | inr more ↦ inr (_, (MatchBool-at_false (Looks script t made op old new) (Decides script t made op old new) more step).moves)
]
place_moves script t op (Following made) old new follows = inr (_, follows.moves)
place_moves script t op (Tagged tag) old new step = tagged_moves script t op tag old new step

-- of each op
op_moves : (script : ScriptValue) (t : ℕ) (o : Option Op) (old new : MachineValue) → StepOf script t o old new → HasMoved t old new
op_moves script t None old new same = inl same
op_moves script t (Some op) old new step = place_moves script t op (thread_at old t).state old new step

-- a step moves its thread, or nothing
pub step_moves : (script : ScriptValue) (t : ℕ) (old new : MachineValue) → Steps script t old new → HasMoved t old new
step_moves script t old new step =
    let one : Type 0 = StepOf script t (op_at script t (thread_at old t).next) old new in
    elim (cases_Bool (phase_in script.phases t == old.phase)) [
      | inl here ↦ op_moves script t (op_at script t (thread_at old t).next) old new (MatchBool-at_true one (new ≡ old) here step)
      | inr away ↦ inl (MatchBool-at_false one (new ≡ old) away step)
    ]

-- a thread at its end changes nothing
ended_step : (script : ScriptValue) (t : ℕ) (o : Option Op) (old new : MachineValue) → o ≡ None → StepOf script t o old new → new ≡ old
ended_step script t None old new none same = same
ended_step script t (Some op) old new none step = absurd cc

-- a thread at its end changes nothing
pub ended_rests : (script : ScriptValue) (t : ℕ) (old new : MachineValue) → HasEnded script t (thread_at old t) → Steps script t old new → new ≡ old
ended_rests script t old new ended step =
    let one : Type 0 = StepOf script t (op_at script t (thread_at old t).next) old new in
    let none : op_at script t (thread_at old t).next ≡ None = ap (op_at script t) ended.0 ∙ slice_get_past (ops_of script t) (length (ops_of script t)) (omega arith) in
    elim (cases_Bool (phase_in script.phases t == old.phase)) [
      | inl here ↦ ended_step script t (op_at script t (thread_at old t).next) old new none (MatchBool-at_true one (new ≡ old) here step)
      | inr away ↦ MatchBool-at_false one (new ≡ old) away step
    ]

-- and stays there
pub ended_stays : (script : ScriptValue) (t u : ℕ) (old new : MachineValue) → HasEnded script t (thread_at old t) → Steps script u old new → HasEnded script t (thread_at new t)
ended_stays script t u old new ended step = elim (cases_Bool (t == u)) [
  | inl same ↦
      let mine : Steps script t old new = subst (λ v. Steps script v old new) (sym (eqb-true t u same)) step in
      subst (λ s. HasEnded script t (thread_at s t)) (sym (ended_rests script t old new ended mine)) ended
  | inr apart ↦ elim (step_moves script u old new step) [
    | inl none ↦ subst (λ s. HasEnded script t (thread_at s t)) (sym none) ended
    | inr moved ↦ subst (λ v. HasEnded script t v) (sym (moved.1.others t (eqb-false t u apart))) ended
  ]
]
