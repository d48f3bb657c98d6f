-- A step of a thread leaves one state: after two states that agree come two that agree.
use Rattle.std.proofs.Common.{◌≡◌, ℕ, ◌<◌, inl, inr, List, length, get_or, Option, Some, None, sym, ap, ◌∙◌, subst}
use Rattle.std.specs.Prelude.{◌==◌}
use Rattle.std.proofs.lemmas.Bool.{MatchBool-at_false, MatchBool-at_true, cases_Bool}
use Rattle.run_law.specs.Journals.{slice_at}
use Rattle.run_law.specs.Ops.{phase_in}
use Rattle.run_law.specs.Slices.{shape_in}
use Rattle.script_ops.specs.Values.{ScriptValue, op_at}
use Rattle.script_ops.specs.declared.op.Op.{Op}
use Rattle.step_world.proofs.HeldLines.{HoldsOnce}
use Rattle.step_world.specs.Machine.{MachineValue, StepFrom, StepOf, Steps, opening_thread, thread_at}
use Rattle.step_world.specs.declared.thread_state.Thread.{Thread}
use Rattle.step_world.proofs.AgreeingStates.{Agree}
use Rattle.step_world.proofs.StepKinds.{number, idle-agree, place-agree}
use Rattle.tree_law.specs.Steps.{next}

module _ (script : ScriptValue) (t : ℕ) (a : MachineValue) (vs : List Thread) (same : (u : ℕ) → thread_at a u ≡ get_or vs u opening_thread)
    (once : (i : ℕ) → i < length a.journals.slices → HoldsOnce (shape_in script.machine i) (slice_at a.journals i)) where
  -- a state with these threads that agrees
  abbrev b : MachineValue
  b = record { journals = a.journals; phase = a.phase; holder = a.holder; threads = vs }

  -- of each op
  op-agree : (o : Option Op) (x y : MachineValue) → StepOf script t o a x → StepOf script t o b y → Agree x y
  op-agree None x y rests its = idle-agree script t a vs same once x y rests its
  op-agree (Some op) x y step its = place-agree script t a vs same once op (thread_at a t).state x y step (subst (λ (v : Thread). StepFrom script t op v.state b y) (sym (same t)) its)

  -- of a thread
  thread-agree : (x y : MachineValue) → Steps script t a x → Steps script t b y → Agree x y
  thread-agree x y step its =
      let one : Type 0 = StepOf script t (op_at script t (thread_at a t).next) a x in
      let other : Type 0 = StepOf script t (op_at script t (thread_at b t).next) b y in
      elim (cases_Bool (phase_in script.phases t == a.phase)) [
        | inl here ↦
            op-agree (op_at script t (thread_at a t).next) x y (MatchBool-at_true one (x ≡ a) here step)
            (subst (λ n. StepOf script t (op_at script t n) b y) (sym (number script t a vs same once)) (MatchBool-at_true other (y ≡ b) here its))
        | inr away ↦ idle-agree script t a vs same once x y (MatchBool-at_false one (x ≡ a) away step) (MatchBool-at_false other (y ≡ b) away its)
      ]

-- after two states that agree a step of a thread leaves two that agree
pub step-agree : (script : ScriptValue) (t : ℕ) (a b x y : MachineValue) → ((i : ℕ) → i < length a.journals.slices → HoldsOnce (shape_in script.machine i) (slice_at a.journals i))
    → Agree a b → Steps script t a x → Steps script t b y → Agree x y
step-agree script t a b x y once agree step its =
    let as_a : b ≡ (record { journals = a.journals; phase = a.phase; holder = a.holder; threads = b.threads }) =
    ap (λ j. record { journals = j; phase = b.phase; holder = b.holder; threads = b.threads }) (sym agree.journals)
    ∙ (ap (λ p. record { journals = a.journals; phase = p; holder = b.holder; threads = b.threads }) (sym agree.phase) ∙ ap (λ h. record { journals = a.journals; phase = a.phase; holder = h; threads = b.threads }) (sym agree.holder)) in
    thread-agree script t a b.threads agree.threads once x y step (subst (λ s. Steps script t s y) as_a its)
