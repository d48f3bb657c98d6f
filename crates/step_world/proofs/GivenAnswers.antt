-- What the answer of a step says is the step that was taken, and tells exactly why none was.
use Rattle.std.proofs.Common.{◌≡◌, ℕ, ◌↔◌, length, inl, inr, Some, None, refl, sym, ap, ◌∙◌, subst, arith}
use Rattle.std.specs.Prelude.{◌==◌}
use Rattle.std.proofs.lemmas.Bool.{cases_Bool, eqb-false, eqb-true}
use Rattle.std.proofs.lemmas.Option.{slice_get_within}
use Rattle.cache_core.specs.declared.touched.Touched.{Touched}
use Rattle.cache_core.specs.declared.touched.Touched.TheVariants.{Hit, Filled, Stale}
use Rattle.rc_base.specs.declared.names.Tag.{Tag}
use Rattle.run_law.specs.Jobs.{looks_of}
use Rattle.run_law.specs.Ops.{phase_in}
use Rattle.script_ops.specs.Values.{ScriptValue, op_at}
use Rattle.script_ops.specs.declared.op.Op.{Op}
use Rattle.script_ops.specs.declared.op.Op.TheVariants.{Access}
use Rattle.step_world.proofs.laws.StepRows.{step_at_end, step_blocked, step_decides, step_follows, step_looks, step_of_another, step_stale, step_tags, step_takes, step_touches}
use Rattle.step_world.specs.Answers.{Answers, Does, HasNext, HasTouched, IsAtEnd, IsBlocked}
use Rattle.step_world.specs.Machine.{MachineValue, Steps, thread_at}
use Rattle.step_world.specs.declared.action.Action.{Action}
use Rattle.step_world.specs.declared.action.Action.TheVariants as actions
use Rattle.step_world.specs.declared.action.Stepped.{Stepped}
use Rattle.step_world.specs.declared.action.Stepped.TheVariants.{Did, Blocked, Ended}
use Rattle.step_world.specs.declared.thread_state.ThreadState.TheVariants.{Ready, Looking, Following, Tagged}
use Rattle.lists.proofs.Options.{not_some-none}

module _ (script : ScriptValue) (t : ℕ) (old new : MachineValue) where
  -- a thread at its end takes none
  end-steps : IsAtEnd script old t → new ≡ old → Steps script t old new
  end-steps end same = elim (cases_Bool (phase_in script.phases t == old.phase)) [
    | inl here ↦ let is = eqb-true (phase_in script.phases t) old.phase here in subst (λ s. Steps script t old s) (sym same) (step_at_end script t old is (end is))
    | inr away ↦ subst (λ s. Steps script t old s) (sym same) (step_of_another script t old (eqb-false (phase_in script.phases t) old.phase away))
  ]

  -- a blocked one too
  blocked-steps : IsBlocked script old t → new ≡ old → Steps script t old new
  blocked-steps held same = subst (λ s. Steps script t old s) (sym same) (step_blocked script t held.op held.holder old held.next.present held.next.is held.place held.held)

  -- there is no next op at the end
  pub next-not_end : (op : Op) → HasNext script old t op → IsAtEnd script old t → ⊥
  next-not_end op next end = none_some op (sym (end next.present) ∙ next.is)
    where
      none_some : (c : Op) → None ≡ Some c → ⊥
      none_some c wrong = cc

  looking-not_ready : (made : ℕ) → Looking made ≡ Ready → ⊥
  looking-not_ready made wrong = cc

  following-not_ready : (made : ℕ) → Following made ≡ Ready → ⊥
  following-not_ready made wrong = cc

  tagged-not_ready : (tag : Tag) → Tagged tag ≡ Ready → ⊥
  tagged-not_ready tag wrong = cc

  touched-not_ready : (touched : Touched) (op : Op) → HasTouched script t touched op old new → (thread_at old t).state ≡ Ready → ⊥
  touched-not_ready (Hit way) op its ready = tagged-not_ready its.tag (sym its.place ∙ ready)
  touched-not_ready (Filled way) op its ready = tagged-not_ready its.tag (sym its.place ∙ ready)
  touched-not_ready (Stale floor) op its ready = tagged-not_ready its.tag (sym its.place ∙ ready)

  does-not_blocked : (action : Action) (op : Op) → Does script t action op old new → IsBlocked script old t → ⊥
  does-not_blocked actions.Took op its held = not_some-none old.holder held.holder its.free held.held
  does-not_blocked (actions.Looked lines) op its held = looking-not_ready its.made (sym its.place ∙ held.place)
  does-not_blocked (actions.Decided reply) op its held = looking-not_ready its.made (sym its.place ∙ held.place)
  does-not_blocked actions.Followed op its held = following-not_ready its.made (sym its.place ∙ held.place)
  does-not_blocked (actions.Tagged epoch) op its held = not_some-none old.holder held.holder its.free held.held
  does-not_blocked (actions.Touched touched) op its held = touched-not_ready touched op its held.place

  -- Ended exactly where the thread is at its end
  pub ended-where : (stepped : Stepped) → Answers script t stepped old new → (stepped ≡ Ended) ↔ IsAtEnd script old t
  ended-where (Did action) answer = (λ wrong. absurd cc, λ end. absurd (next-not_end answer.0 answer.1 end))
  ended-where Blocked answer = (λ wrong. absurd cc, λ end. absurd (next-not_end answer.0.op answer.0.next end))
  ended-where Ended answer = (λ same. answer.0, λ end. refl)

  -- Blocked exactly where it is blocked
  pub blocked-where : (stepped : Stepped) → Answers script t stepped old new → (stepped ≡ Blocked) ↔ IsBlocked script old t
  blocked-where (Did action) answer = (λ wrong. absurd cc, λ held. absurd (does-not_blocked action answer.0 answer.2 held))
  blocked-where Blocked answer = (λ same. answer.0, λ held. refl)
  blocked-where Ended answer = (λ wrong. absurd cc, λ held. absurd (next-not_end held.op held.next answer.0))

  -- ---- the step

  -- what was touched
  touched-steps : (touched : Touched) (op : Op) → HasNext script old t op → HasTouched script t touched op old new → Steps script t old new
  touched-steps (Hit way) op next its =
      let is : op_at script t (thread_at old t).next ≡ Some (Access its.task its.cpu its.addr) = next.is ∙ ap (λ c. Some c) its.access in
      step_touches script t its.task its.cpu its.addr its.tag old new next.present is its.place its.fresh its.row
  touched-steps (Filled way) op next its =
      let is : op_at script t (thread_at old t).next ≡ Some (Access its.task its.cpu its.addr) = next.is ∙ ap (λ c. Some c) its.access in
      step_touches script t its.task its.cpu its.addr its.tag old new next.present is its.place its.fresh its.row
  touched-steps (Stale floor) op next its =
      let is : op_at script t (thread_at old t).next ≡ Some (Access its.task its.cpu its.addr) = next.is ∙ ap (λ c. Some c) its.access in
      step_stale script t its.task its.cpu its.addr its.tag old new next.present is its.place (omega (arith, its.below, its.told)) its.row

  -- the row of an answer
  does-steps : (action : Action) (op : Op) → HasNext script old t op → Does script t action op old new → Steps script t old new
  does-steps actions.Took op next its = step_takes script t op old new next.present next.is its.command its.place its.free its.row
  does-steps (actions.Looked lines) op next its =
      step_looks script t its.made op old new next.present next.is its.place (slice_get_within (looks_of script old.journals.tree (length old.journals.tree) op) its.made its.row.job its.row.there) its.row
  does-steps (actions.Decided reply) op next its = step_decides script t its.made op old new next.present next.is its.place its.looked its.row
  does-steps actions.Followed op next its = step_follows script t its.made op old new next.present next.is its.place its.row
  does-steps (actions.Tagged epoch) op next its =
      let is : op_at script t (thread_at old t).next ≡ Some (Access its.task its.cpu its.addr) = next.is ∙ ap (λ c. Some c) its.access in
      step_tags script t its.task its.cpu its.addr old new next.present is its.place its.free its.row
  does-steps (actions.Touched touched) op next its = touched-steps touched op next its

  -- so is each answer
  pub answers-steps : (stepped : Stepped) → Answers script t stepped old new → Steps script t old new
  answers-steps (Did action) answer = does-steps action answer.0 answer.1 answer.2
  answers-steps Blocked answer = blocked-steps answer.0 answer.1
  answers-steps Ended answer = end-steps answer.0 answer.1
