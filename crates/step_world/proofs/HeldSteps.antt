-- A step of the thread that holds the tree brings it nearer to letting go.
use Rattle.std.proofs.Common.{◌≡◌, ℕ, ◌+◌, ◌-◌, ◌<◌, ◌⊎◌, inl, inr, [], ◌∷◌, length, Option, Some, None, refl, ap, ◌∙◌, subst, arith}
use Rattle.std.specs.Prelude.{IsSome, nat_lt}
use Rattle.std.proofs.lemmas.Bool.{MatchBool-at_false, MatchBool-at_true, cases_Bool, cases_lt, eq-eqb, ltb-true}
use Rattle.std.proofs.lemmas.List.{length-append, length_push}
use Rattle.std.proofs.lemmas.Option.{slice_get_within}
use Rattle.run_law.proofs.laws.LongerHistories.{jobs_front}
use Rattle.run_law.proofs.laws.OpMarks.{not_some}
use Rattle.run_law.specs.Jobs.{follows_of, jobs_of, looks_of}
use Rattle.run_law.specs.Ops.{phase_in}
use Rattle.run_law.specs.Progress.{Progress}
use Rattle.script_ops.specs.Values.{ScriptValue, op_at}
use Rattle.script_ops.specs.declared.op.Op.{Op}
use Rattle.step_world.proofs.laws.AccessSteps.{some_can_be}
use Rattle.step_world.proofs.laws.MachineStates.{holder_off, holder_on, place_behind-ready, place_behind-following}
use Rattle.step_world.proofs.StepParts.{place_of}
use Rattle.step_world.specs.Machine.{Decides, Follows, Looks, MachineValue, StepFrom, StepOf, Steps, thread_at}
use Rattle.step_world.specs.Moments.{IsRunSoFar, progress_by, progress_in}
use Rattle.step_world.specs.Turns.{holding_left, steps_to_go}
use Rattle.step_world.specs.declared.thread_state.ThreadState.{ThreadState}
use Rattle.step_world.specs.declared.thread_state.ThreadState.TheVariants.{Ready, Looking, Following, Tagged}
use Rattle.step_world.specs.declared.thread_state.Thread.{Thread}

-- it goes on holding the tree, or lets go at the end of its command
pub record HasHeld (script : ScriptValue) (t : ℕ) (old new : MachineValue) : Type 0 where
  pub less : holding_left script new new.holder < holding_left script old (Some t)
  pub which : ((new.holder ≡ Some t) × ((thread_at new t).next ≡ (thread_at old t).next)) ⊎ ((new.holder ≡ None) × (thread_at new t ≡ (record { next = (thread_at old t).next + 1; state = Ready })))

-- the step from a place
pub step_from_place : (script : ScriptValue) (t : ℕ) (op : Op) (place : ThreadState) (old new : MachineValue) → phase_in script.phases t ≡ old.phase → op_at script t (thread_at old t).next ≡ Some op
    → (thread_at old t).state ≡ place → Steps script t old new → StepFrom script t op place old new
step_from_place script t op place old new here is at step =
    subst (λ p. StepFrom script t op p old new) at (subst (λ o. StepOf script t o old new) is
    (MatchBool-at_true (StepOf script t (op_at script t (thread_at old t).next) old new) (new ≡ old) (eq-eqb (phase_in script.phases t) old.phase here) step))

-- what is left, told by where the thread is
left_at : (script : ScriptValue) (s : MachineValue) (t : ℕ) (v : Thread) (o : Option Op) → thread_at s t ≡ v → op_at script t v.next ≡ o → holding_left script s (Some t) ≡ steps_to_go script s.journals.tree v.state o
left_at script s t v o there is = ap (λ (x : Thread). steps_to_go script s.journals.tree x.state (op_at script t x.next)) there ∙ ap (steps_to_go script s.journals.tree v.state) is

-- what is left of it by the place
left_by : (script : ScriptValue) (s : MachineValue) (t : ℕ) (op : Op) (place : ThreadState) → (thread_at s t).state ≡ place → op_at script t (thread_at s t).next ≡ Some op → holding_left script s (Some t) ≡ steps_to_go script s.journals.tree place (Some op)
left_by script s t op place at is = ap (steps_to_go script s.journals.tree (thread_at s t).state) is ∙ ap (λ p. steps_to_go script s.journals.tree p (Some op)) at

-- by who holds the tree
left_of : (script : ScriptValue) (s : MachineValue) (o : Option ℕ) → s.holder ≡ o → holding_left script s s.holder ≡ holding_left script s o
left_of script s o is = ap (holding_left script s) is

module _ (script : ScriptValue) (t : ℕ) (old new : MachineValue) (so_far : IsRunSoFar script old) where
  abbrev n : ℕ
  n = (thread_at old t).next

  -- a look
  looks_held : (made : ℕ) (op : Op) → old.holder ≡ Some t → op_at script t n ≡ Some op → (thread_at old t).state ≡ Looking made
      → made < length (looks_of script old.journals.tree (length old.journals.tree) op) → Looks script t made op old new → HasHeld script t old new
  looks_held made op held is at less looks =
      let tree = looks.makes.notes.tree in
      let before : holding_left script old (Some t) ≡ length (jobs_of script old.journals.tree (length old.journals.tree) op) + 1 - made = left_by script old t op (Looking made) at is in
      let now : holding_left script new (Some t) ≡ length (jobs_of script new.journals.tree (length new.journals.tree) op) + 1 - (made + 1) =
      left_at script new t (record { next = n; state = Looking (made + 1) }) (Some op) looks.moves.there is in
      let same : length (jobs_of script new.journals.tree (length new.journals.tree) op) ≡ length (jobs_of script old.journals.tree (length old.journals.tree) op) = ap (λ hs. length (jobs_of script hs (length hs) op)) tree in
      let parts = length-append (looks_of script old.journals.tree (length old.journals.tree) op) (follows_of script old.journals.tree (length old.journals.tree) op) in
      let holder : new.holder ≡ Some t = looks.holder ∙ held in
      record {
        less = omega (arith, left_of script new (Some t) holder, before, now, same, parts, less);
        which = inl (holder, ap (λ (v : Thread). v.next) looks.moves.there);
      }

  -- a decision
  decides_held : (made : ℕ) (op : Op) → old.holder ≡ Some t → op_at script t n ≡ Some op → (thread_at old t).state ≡ Looking made
      → Decides script t made op old new → HasHeld script t old new
  decides_held made op held is at decides =
      let tree = old.journals.tree in
      let all : ℕ = length (jobs_of script tree (length tree) op) in
      let before : holding_left script old (Some t) ≡ all + 1 - made = left_by script old t op (Looking made) at is in
      let parts = length-append (looks_of script tree (length tree) op) (follows_of script tree (length tree) op) in
      let within = so_far.looking t made op at is in
      elim (cases_lt made all) [
        | inl more ↦
            let there : thread_at new t ≡ (record { next = n; state = Following made }) = decides.moves.there ∙ place_behind-following n made all more in
            let holder : new.holder ≡ Some t = decides.holder ∙ holder_on t made all more in
            let now : holding_left script new (Some t) ≡ length (jobs_of script new.journals.tree (length new.journals.tree - 1) op) - made = left_at script new t (record { next = n; state = Following made }) (Some op) there is in
            let position : length new.journals.tree - 1 ≡ length tree = omega (arith, ap length decides.tree, length_push tree decides.entry) in
            let same : length (jobs_of script new.journals.tree (length new.journals.tree - 1) op) ≡ all =
            ap (λ k. length (jobs_of script new.journals.tree k op)) position ∙ (ap (λ hs. length (jobs_of script hs (length tree) op)) decides.tree ∙ ap length (jobs_front script tree (decides.entry ∷ []) (length tree) op (omega arith))) in
            record {
              less = omega (arith, left_of script new (Some t) holder, before, now, same, more);
              which = inl (holder, ap (λ (v : Thread). v.next) there);
            }
        | inr ends ↦
            let holder : new.holder ≡ None = decides.holder ∙ holder_off t made all ends in
            record {
              less = omega (arith, left_of script new None holder, before, parts, within);
              which = inr (holder, decides.moves.there ∙ place_behind-ready n made all ends);
            }
      ]

  -- a follow-up
  follows_held : (made : ℕ) (op : Op) → op_at script t n ≡ Some op → (thread_at old t).state ≡ Following made → Follows script t made op old new → HasHeld script t old new
  follows_held made op is at follows =
      let tree = old.journals.tree in
      let all : ℕ = length (jobs_of script tree follows.position op) in
      let position : length tree - 1 ≡ follows.position = omega (arith, follows.last) in
      let before : holding_left script old (Some t) ≡ length (jobs_of script tree (length tree - 1) op) - made = left_by script old t op (Following made) at is in
      let count : length (jobs_of script tree (length tree - 1) op) ≡ all = ap (λ k. length (jobs_of script tree k op)) position in
      let within : made < all = slice_get_within (jobs_of script tree follows.position op) made follows.job follows.there in
      elim (cases_lt (made + 1) all) [
        | inl more ↦
            let there : thread_at new t ≡ (record { next = n; state = Following (made + 1) }) = follows.moves.there ∙ place_behind-following n (made + 1) all more in
            let holder : new.holder ≡ Some t = follows.holder ∙ holder_on t (made + 1) all more in
            let now : holding_left script new (Some t) ≡ length (jobs_of script new.journals.tree (length new.journals.tree - 1) op) - (made + 1) =
            left_at script new t (record { next = n; state = Following (made + 1) }) (Some op) there is in
            let same : length (jobs_of script new.journals.tree (length new.journals.tree - 1) op) ≡ length (jobs_of script tree (length tree - 1) op) = ap (λ hs. length (jobs_of script hs (length hs - 1) op)) follows.makes.notes.tree in
            record {
              less = omega (arith, left_of script new (Some t) holder, before, now, same, count, within);
              which = inl (holder, ap (λ (v : Thread). v.next) there);
            }
        | inr ends ↦
            let holder : new.holder ≡ None = follows.holder ∙ holder_off t (made + 1) all ends in
            record {
              less = omega (arith, left_of script new None holder, before, count, within);
              which = inr (holder, follows.moves.there ∙ place_behind-ready n (made + 1) all ends);
            }
      ]

  -- a place of none that holds the tree
  idle_place : (place : ThreadState) → (thread_at old t).state ≡ place → (progress_by 0 place).made ≡ None → IsSome (progress_in old t).made → ⊥
  idle_place Ready at none some = not_some (progress_in old t).made (ap (λ (x : Progress). x.made) (place_of old t Ready at)) some
  idle_place (Tagged tag) at none some = not_some (progress_in old t).made (ap (λ (x : Progress). x.made) (place_of old t (Tagged tag) at)) some
  idle_place (Looking made) at none some = absurd cc
  idle_place (Following made) at none some = absurd cc

  -- the thread that holds the tree is of the present phase
  pub holder_phase : old.holder ≡ Some t → phase_in script.phases t ≡ old.phase
  holder_phase held =
      let some : IsSome (progress_in old t).made = (so_far.held t).1 held in
      let first = some_can_be old old.holder in
      let phases = (so_far.kept first.0 first.1).in_phase in
      elim (cases_lt (phase_in script.phases t) old.phase) [
        | inl early ↦ absurd (not_some (progress_in old t).made (ap (λ (x : Progress). x.made) (phases.earlier t early)) some)
        | inr not_early ↦ elim (cases_lt old.phase (phase_in script.phases t)) [
          | inl late ↦ absurd (not_some (progress_in old t).made (ap (λ (x : Progress). x.made) (phases.later t late)) some)
          | inr not_late ↦ omega (arith, not_early, not_late)
        ]
      ]

  -- and has an op
  pub holder_op : old.holder ≡ Some t → IsSome (op_at script t (progress_in old t).next)
  holder_op held = let first = some_can_be old old.holder in (so_far.kept first.0 first.1).in_order.holds_op t ((so_far.held t).1 held)

  -- a step of it
  pub held_step : old.holder ≡ Some t → Steps script t old new → HasHeld script t old new
  held_step held step = at (thread_at old t).state refl
    where
      here : phase_in script.phases t ≡ old.phase
      here = holder_phase held

      looking : (made : ℕ) (o : Option Op) → (thread_at old t).state ≡ Looking made → op_at script t n ≡ o → IsSome o → HasHeld script t old new
      looking made None place is some = absurd cc
      looking made (Some op) place is some =
          let row = step_from_place script t op (Looking made) old new here is place step in
          elim (cases_Bool (nat_lt made (length (looks_of script old.journals.tree (length old.journals.tree) op)))) [
            | inl less ↦ looks_held made op held is place (ltb-true made _ less) (MatchBool-at_true (Looks script t made op old new) (Decides script t made op old new) less row)
            | inr more ↦ decides_held made op held is place (MatchBool-at_false (Looks script t made op old new) (Decides script t made op old new) more row)
          ]

      following : (made : ℕ) (o : Option Op) → (thread_at old t).state ≡ Following made → op_at script t n ≡ o → IsSome o → HasHeld script t old new
      following made None place is some = absurd cc
      following made (Some op) place is some = follows_held made op is place (step_from_place script t op (Following made) old new here is place step)

      at : (place : ThreadState) → (thread_at old t).state ≡ place → HasHeld script t old new
      at Ready place = absurd (idle_place Ready place refl ((so_far.held t).1 held))
      at (Tagged tag) place = absurd (idle_place (Tagged tag) place refl ((so_far.held t).1 held))
      at (Looking made) place = looking made (op_at script t n) place refl (subst (λ (x : Progress). IsSome (op_at script t x.next)) (place_of old t (Looking made) place) (holder_op held))
      at (Following made) place = following made (op_at script t n) place refl (subst (λ (x : Progress). IsSome (op_at script t x.next)) (place_of old t (Following made) place) (holder_op held))
