-- A thread's turns while nobody holds the tree, until its end.
use Rattle.std.proofs.Common.{◌≡◌, ℕ, suc, ◌+◌, ◌<◌, ◌≤◌, true, false, inl, inr, List, length, replicate, get_or, Option, Some, None, refl, sym, ap, ◌∙◌, subst, arith}
use Rattle.std.specs.Prelude.{is_some, slice_get}
use Rattle.std.proofs.lemmas.Bool.{cases_lt}
use Rattle.std.proofs.lemmas.Option.{slice_get-get_or, slice_get_within}
use Rattle.run_law.specs.Ops.{phase_in}
use Rattle.script_ops.specs.Values.{ScriptValue, op_at, ops_of}
use Rattle.script_ops.specs.declared.op.Op.{Op}
use Rattle.script_ops.specs.declared.op.Op.TheVariants as ops
use Rattle.step_world.proofs.FreeSteps.{free_step, turns_left-after_command}
use Rattle.step_world.proofs.PhaseSteps.{StepsOf-gone}
use Rattle.step_world.specs.Machine.{MachineValue, Steps, thread_at}
use Rattle.step_world.specs.Schedules.{HasEnded}
use Rattle.step_world.specs.Moments.{IsRunSoFar}
use Rattle.step_world.specs.Play.{StepsOf}
use Rattle.step_world.specs.Turns.{HasLetGo, turns_left}
use Rattle.step_world.specs.Worlds.{AreWithin, IsIn, IsWithin}
use Rattle.step_world.specs.declared.thread_state.ThreadState.{ThreadState}
use Rattle.step_world.specs.declared.thread_state.ThreadState.TheVariants.{Ready, Looking, Following, Tagged}
use Rattle.step_world.specs.declared.thread_state.Thread.{Thread}

-- a thread with an op steps once, and on until it has let go of the tree: it is nearer to its end
pub turn : (script : ScriptValue) (t : ℕ) (old mid last : MachineValue) → IsRunSoFar script old → AreWithin script old → old.holder ≡ None → phase_in script.phases t ≡ old.phase
    → is_some (op_at script t (thread_at old t).next) ≡ true → Steps script t old mid → HasLetGo script mid.holder mid last
    → (turns_left script last t < turns_left script old t) × ((n : ℕ) × StepsOf script (replicate n t) old last)
turn script t old mid last so_far within free here some step gone = with_op (op_at script t (thread_at old t).next) refl some
  where
    with_op : (o : Option Op) → op_at script t (thread_at old t).next ≡ o → is_some o ≡ true → (turns_left script last t < turns_left script old t) × ((n : ℕ) × StepsOf script (replicate n t) old last)
    with_op None is some = absurd cc
    with_op (Some op) is some = elim (free_step script t old mid so_far free within op here is step) [
      | inl (took, next, before) ↦
          let its : HasLetGo script (Some t) mid last = subst (λ o. HasLetGo script o mid last) took gone in
          let below : (thread_at old t).next < length (ops_of script t) = slice_get_within (ops_of script t) (thread_at old t).next op is in
          let there : thread_at last t ≡ (record { next = (thread_at old t).next + 1; state = Ready }) = its.2 ∙ ap after_op next in
          let rest = StepsOf-gone script (Some t) t mid last (inl refl) its in
          (turns_left-after_command script t old mid so_far free last before below there, (suc rest.0, (mid, step, rest.1)))
      | inr (none, less) ↦
          let same : last ≡ mid = subst (λ o. HasLetGo script o mid last) none gone in
          (subst (λ s. turns_left script s t < turns_left script old t) (sym same) less, (1, (mid, step, same)))
    ]
      where
        after_op : ℕ → Thread
        after_op n = record { next = n + 1; state = Ready }

-- a place in no op
ready-none : (place : ThreadState) (o : Option Op) → o ≡ None → IsIn place o → place ≡ Ready
ready-none Ready o none inside = refl
ready-none (Looking made) None none inside = absurd cc
ready-none (Following made) None none inside = absurd cc
ready-none (Tagged tag) None none inside = absurd inside
ready-none place (Some op) none inside = absurd cc

-- a thread without an op is at its end
pub ended-none : (script : ScriptValue) (t : ℕ) (v : Thread) → IsWithin script t v → is_some (op_at script t v.next) ≡ false → HasEnded script t v
ended-none script t v within none =
    let gone : op_at script t v.next ≡ None = is_none (op_at script t v.next) none in
    (end (ops_of script t) v.next within.0 gone, ready-none v.state (op_at script t v.next) gone within.1)
  where
    is_none : (o : Option Op) → is_some o ≡ false → o ≡ None
    is_none None h = refl
    is_none (Some op) h = absurd cc

    end : (xs : List Op) (n : ℕ) → n ≤ length xs → slice_get xs n ≡ None → n ≡ length xs
    end xs n most past = elim (cases_lt n (length xs)) [
      | inl less ↦ absurd (let there : slice_get xs n ≡ Some (get_or xs n ops.Tick) = slice_get-get_or xs n ops.Tick less in cc)
      | inr more ↦ omega (arith, most, more)
    ]
