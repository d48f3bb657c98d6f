-- Each thread is at one of its ops or at its end.
use Rattle.std.proofs.Common.{◌≡◌, ℕ, ◌+◌, ◌<◌, ◌⊎◌, inl, inr, length, Option, Some, None, refl, sym, subst, arith}
use Rattle.std.specs.Prelude.{◌==◌, nat_lt}
use Rattle.std.proofs.lemmas.Bool.{MatchBool-at_false, MatchBool-at_true, cases_Bool}
use Rattle.std.proofs.lemmas.Option.{slice_get_within}
use Rattle.rc_base.specs.declared.names.Tag.{Tag}
use Rattle.run_law.specs.Growth.{tag_of}
use Rattle.run_law.specs.Jobs.{looks_of}
use Rattle.run_law.specs.Ops.{phase_in}
use Rattle.run_law.specs.TreeHistory.{tree_after}
use Rattle.script_ops.specs.Values.{ScriptValue, op_at, ops_of}
use Rattle.script_ops.specs.declared.op.Op.{Op}
use Rattle.script_ops.specs.declared.op.Op.TheVariants.{Access}
use Rattle.step_world.proofs.laws.MachineStates.{where_now}
use Rattle.step_world.specs.Machine.{Begins, Decides, Looks, MachineValue, Moves, Reaches, StepFrom, StepOf, Steps, TagsAgain, Touches, floor_for, place_behind, thread_at}
use Rattle.step_world.specs.Worlds.{AreWithin, IsIn, IsWithin}
use Rattle.step_world.specs.declared.thread_state.ThreadState.{ThreadState}
use Rattle.step_world.specs.declared.thread_state.ThreadState.TheVariants.{Following, Looking, Ready, Tagged}
use Rattle.step_world.specs.declared.thread_state.Thread.{Thread}

-- nothing has changed, or this thread is at a place within its ops
abbrev MovesWithin : ScriptValue → ℕ → MachineValue → MachineValue → Type 0
MovesWithin script t old new = (new ≡ old) ⊎ ((now : Thread) × Moves t now old new × IsWithin script t now)

module _ (script : ScriptValue) (t n : ℕ) (op : Op) (is : op_at script t n ≡ Some op) where
  -- the op is there
  below : n < length (ops_of script t)
  below = slice_get_within (ops_of script t) n op is

  -- in the op
  in_op : (place : ThreadState) → IsIn place (Some op) → IsWithin script t (record { next = n; state = place })
  in_op place inside = (omega (arith, below), subst (λ o. IsIn place o) (sym is) inside)

  -- after it
  after_op : IsWithin script t (record { next = n + 1; state = Ready })
  after_op = (omega (arith, below), tt)

  -- after one of its entries
  behind_op : (made all : ℕ) → IsWithin script t (place_behind n made all)
  behind_op made all = elim (cases_Bool (nat_lt made all)) [ inl less ↦ rw less (in_op (Following made) refl) | inr more ↦ rw more after_op ]

module _ (script : ScriptValue) (t : ℕ) (old new : MachineValue) where
  abbrev next : ℕ
  next = (thread_at old t).next

  -- Take or Tag
  begins_within : (op : Op) (holder : Option ℕ) → op_at script t next ≡ Some op → Begins script t op holder old new → MovesWithin script t old new
  begins_within op (Some other) is same = inl same
  begins_within (Access task cpu addr) None is tags = inr (_, tags.moves, in_op script t next (Access task cpu addr) is (Tagged (tag_of script.machine (tree_after script old.journals.tree) (length old.journals.tree) task cpu)) tt)
  begins_within op None is takes = inr (_, takes.moves, in_op script t next op is (Looking 0) refl)

  -- a touch
  reaches_within : (tag : Tag) (task cpu addr : ℕ) → op_at script t next ≡ Some (Access task cpu addr) → Reaches script t tag task cpu addr old new → MovesWithin script t old new
  reaches_within tag task cpu addr is reaches = elim (cases_Bool (nat_lt tag.epoch (floor_for script old tag addr))) [
    | inl less ↦ inr (_, (MatchBool-at_true (TagsAgain t old new) (Touches script t tag task cpu addr old new) less reaches).moves, in_op script t next (Access task cpu addr) is Ready tt)
    | inr fresh ↦ inr (_, (MatchBool-at_false (TagsAgain t old new) (Touches script t tag task cpu addr old new) fresh reaches).moves, after_op script t next (Access task cpu addr) is)
  ]

  -- with a tag
  tagged_within : (op : Op) (tag : Tag) → op_at script t next ≡ Some op → StepFrom script t op (Tagged tag) old new → MovesWithin script t old new
  tagged_within (Access task cpu addr) tag is reaches = reaches_within tag task cpu addr is reaches
  tagged_within op tag is same = inl same

  -- at each place
  place_within : (op : Op) (place : ThreadState) → op_at script t next ≡ Some op → StepFrom script t op place old new → MovesWithin script t old new
  place_within op Ready is begins = begins_within op old.holder is begins
  place_within op (Looking made) is step = elim (cases_Bool (nat_lt made (length (looks_of script old.journals.tree (length old.journals.tree) op)))) [
    | inl less ↦ inr (_, (MatchBool-at_true (Looks script t made op old new) (Decides script t made op old new) less step).moves, in_op script t next op is (Looking (made + 1)) refl)
    | inr more ↦ inr (_, (MatchBool-at_false (Looks script t made op old new) (Decides script t made op old new) more step).moves, behind_op script t next op is made _)
  ]
  place_within op (Following made) is follows = inr (_, follows.moves, behind_op script t next op is (made + 1) _)
  place_within op (Tagged tag) is step = tagged_within op tag is step

  -- of each op
  op_within : (o : Option Op) → op_at script t next ≡ o → StepOf script t o old new → MovesWithin script t old new
  op_within None is same = inl same
  op_within (Some op) is step = place_within op (thread_at old t).state is step

  -- a step
  step_within : Steps script t old new → MovesWithin script t old new
  step_within step =
      let one : Type 0 = StepOf script t (op_at script t next) old new in
      elim (cases_Bool (phase_in script.phases t == old.phase)) [
        | inl here ↦ op_within (op_at script t next) refl (MatchBool-at_true one (new ≡ old) here step)
        | inr away ↦ inl (MatchBool-at_false one (new ≡ old) away step)
      ]

  -- after a step each thread still is
  pub AreWithin-step : Steps script t old new → AreWithin script old → AreWithin script new
  AreWithin-step step within u = elim (step_within step) [
    | inl same ↦ subst (λ s. IsWithin script u (thread_at s u)) (sym same) (within u)
    | inr moved ↦ elim (where_now old new t moved.0 moved.1 u) [
      | inl here ↦ subst (λ v. IsWithin script u v) (sym here.1) (subst (λ x. IsWithin script x moved.0) (sym here.0) moved.2)
      | inr away ↦ subst (λ v. IsWithin script u v) (sym away.1) (within u)
    ]
  ]
