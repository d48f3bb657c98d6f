-- Steps of one phase, one after the other.
use Rattle.std.proofs.Common.{◌≡◌, ℕ, zero, suc, ◌+◌, ◌<◌, ◌≤◌, ◌⊎◌, inl, inr, List, [], ◌∷◌, ◌++◌, length, replicate, Option, Some, None, refl, sym, ap, ◌∙◌, subst, arith}
use Rattle.std.specs.List.{range_with_len}
use Rattle.std.proofs.lemmas.Option.{same_Some}
use Rattle.lists.proofs.Ranges.{range_with_len-suc}
use Rattle.run_law.specs.Ops.{phase_in}
use Rattle.script_ops.specs.Values.{ScriptValue, first_thread, phase_at}
use Rattle.step_world.proofs.EndedThreads.{ended_stays}
use Rattle.step_world.proofs.HeldSteps.{held_step}
use Rattle.run_law.proofs.laws.PhaseThreads.{of_phase}
use Rattle.step_world.specs.Machine.{MachineValue, Steps, thread_at}
use Rattle.step_world.specs.Schedules.{HasEnded}
use Rattle.step_world.specs.Moments.{IsRunSoFar}
use Rattle.step_world.specs.Play.{EndInTurn, LetsGo, PlaysPhaseBy, PlaysPhasesBy, StepsHolding, StepsOf, threads_of_phase}
use Rattle.step_world.specs.Turns.{EndsThread, HasLetGo, IsLettingGo}
use Rattle.step_world.specs.declared.thread_state.ThreadState.TheVariants.{Ready}
use Rattle.step_world.specs.declared.thread_state.Thread.{Thread}

module _ (script : ScriptValue) where
  -- ---- one more at the end

  -- a step after others
  pub StepsOf-append : (ts us : List ℕ) (old between new : MachineValue) → StepsOf script ts old between → StepsOf script us between new → StepsOf script (ts ++ us) old new
  StepsOf-append [] us old between new same steps = subst (λ s. StepsOf script us s new) same steps
  StepsOf-append (t ∷ ts) us old between new (first, step, rest) steps = (first, step, StepsOf-append ts us first between new rest steps)

  -- one step
  pub StepsOf-one : (t : ℕ) (old new : MachineValue) → Steps script t old new → StepsOf script (t ∷ []) old new
  StepsOf-one t old new step = (new, step, refl)

  -- one more of the one that holds the tree
  pub StepsHolding-suc : (t n : ℕ) (old between new : MachineValue) → StepsHolding script t n old between → Steps script t between new → new.holder ≡ Some t → StepsHolding script t (n + 1) old new
  StepsHolding-suc t n old between new steps step holds = (let same : suc n ≡ n + 1 = omega arith in subst (λ k. StepsHolding script t k old new) same (at n old steps))
    where
      at : (k : ℕ) (first : MachineValue) → StepsHolding script t k first between → StepsHolding script t (suc k) first new
      at zero first same = (new, subst (λ s. Steps script t s new) same step, holds, refl)
      at (suc k) first (next, one, held, rest) = (next, one, held, at k next rest)

  -- its steps are steps
  StepsOf-holding : (t n : ℕ) (old new : MachineValue) → StepsHolding script t n old new → StepsOf script (replicate n t) old new
  StepsOf-holding t zero old new same = same
  StepsOf-holding t (suc n) old new (between, step, held, rest) = (between, step, StepsOf-holding t n between new rest)

  -- equal numbers together
  replicate-add : (t n k : ℕ) → replicate n t ++ replicate k t ≡ replicate (n + k) t
  replicate-add t zero k = (let same : k ≡ 0 + k = omega arith in ap (λ j. replicate j t) same)
  replicate-add t (suc n) k = (let next : suc (n + k) ≡ suc n + k = omega arith in ap (λ ts. t ∷ ts) (replicate-add t n k) ∙ ap (λ j. replicate j t) next)

  -- ---- the thread that holds the tree

  -- after a step
  pub IsLettingGo-step : (holder : Option ℕ) (t : ℕ) (first old new : MachineValue) → first.holder ≡ holder → IsRunSoFar script old → old.holder ≡ Some t → Steps script t old new → IsLettingGo script holder first old → IsLettingGo script holder first new
  IsLettingGo-step None t first old new is so_far held step same = absurd (let wrong : None ≡ Some t = sym is ∙ (ap (λ (s : MachineValue). s.holder) (sym same) ∙ held) in cc)
  IsLettingGo-step (Some u) t first old new is so_far held step (inr gone) = absurd (let wrong : None ≡ Some t = sym gone.1 ∙ held in cc)
  IsLettingGo-step (Some u) t first old new is so_far held step (inl holds) =
      let same : t ≡ u = same_Some t u (sym held ∙ holds.holder) in
      let mine : Steps script u old new = subst (λ x. Steps script x old new) same step in
      let has = held_step script u old new so_far holds.holder mine in
      elim has.which [
        | inl on ↦ inl (record { count = holds.count + 1; steps = StepsHolding-suc u holds.count first old new holds.steps mine on.0; holder = on.0; next = on.1 ∙ holds.next })
        | inr off ↦ inr ((holds.count, old, holds.steps, mine, off.0), off.0, off.1 ∙ ap (λ (n : ℕ). place_after n) holds.next)
      ]
    where
      place_after : ℕ → Thread
      place_after n = record { next = n + 1; state = Ready }

  -- it lets go
  pub LetsGo-gone : (holder : Option ℕ) (first last : MachineValue) → HasLetGo script holder first last → LetsGo script holder first last
  LetsGo-gone None first last same = same
  LetsGo-gone (Some t) first last gone = gone.0

  -- all its steps until it has let go are its
  pub StepsOf-gone : (holder : Option ℕ) (t : ℕ) (first last : MachineValue) → (holder ≡ Some t) ⊎ (holder ≡ None) → HasLetGo script holder first last → (n : ℕ) × StepsOf script (replicate n t) first last
  StepsOf-gone None t first last whose same = (0, same)
  StepsOf-gone (Some u) t first last (inr none) gone = absurd cc
  StepsOf-gone (Some u) t first last (inl mine) gone =
      let ((n, between, steps, step, free), none, there) = gone in
      let its : StepsOf script (replicate n u ++ replicate 1 u) first last = StepsOf-append (replicate n u) (u ∷ []) first between last (StepsOf-holding u n first between steps) (StepsOf-one u between last step) in
      (n + 1, subst (λ x. StepsOf script (replicate (n + 1) x) first last) (same_Some u t mine) (subst (λ ts. StepsOf script ts first last) (replicate-add u n 1) its))

  -- ---- threads to their ends

  -- so many steps of a thread, and more
  pub StepsOf-more : (t n k : ℕ) (old between new : MachineValue) → StepsOf script (replicate n t) old between → StepsOf script (replicate k t) between new → StepsOf script (replicate (n + k) t) old new
  StepsOf-more t n k old between new first rest = subst (λ ts. StepsOf script ts old new) (replicate-add t n k) (StepsOf-append (replicate n t) (replicate k t) old between new first rest)

  -- one more thread
  EndInTurn-append : (ts : List ℕ) (t : ℕ) (old between new : MachineValue) → EndInTurn script ts old between → EndsThread script t between new → EndInTurn script (ts ++ t ∷ []) old new
  EndInTurn-append [] t old between new same ends = subst (λ s. EndInTurn script (t ∷ []) s new) same (ends.count, new, ends.steps, ends.ended, refl)
  EndInTurn-append (u ∷ ts) t old between new (n, first, steps, ended, rest) ends = (n, first, steps, ended, EndInTurn-append ts t first between new rest ends)

  pub EndInTurn-suc : (a n : ℕ) (old between new : MachineValue) → EndInTurn script (range_with_len a n) old between → EndsThread script (a + n) between new → EndInTurn script (range_with_len a (n + 1)) old new
  EndInTurn-suc a n old between new ends more = subst (λ ts. EndInTurn script ts old new) (sym (range_with_len-suc a n)) (EndInTurn-append (range_with_len a n) (a + n) old between new ends more)

  -- a thread at its end stays there
  stays_steps : (t : ℕ) (ts : List ℕ) (old new : MachineValue) → HasEnded script t (thread_at old t) → StepsOf script ts old new → HasEnded script t (thread_at new t)
  stays_steps t [] old new ended same = subst (λ s. HasEnded script t (thread_at s t)) (sym same) ended
  stays_steps t (u ∷ ts) old new ended (between, step, rest) = stays_steps t ts between new (ended_stays script t u old between ended step) rest

  -- while others go to theirs
  stays_ends : (t : ℕ) (ts : List ℕ) (old new : MachineValue) → HasEnded script t (thread_at old t) → EndInTurn script ts old new → HasEnded script t (thread_at new t)
  stays_ends t [] old new ended same = subst (λ s. HasEnded script t (thread_at s t)) (sym same) ended
  stays_ends t (u ∷ ts) old new ended (n, between, steps, other, rest) = stays_ends t ts between new (stays_steps t (replicate n u) old between ended steps) rest

  -- all are at their ends
  all_ended : (a n : ℕ) (old new : MachineValue) → EndInTurn script (range_with_len a n) old new → (t : ℕ) → a ≤ t → t < a + n → HasEnded script t (thread_at new t)
  all_ended a zero old new ends t from to = absurd (omega (arith, from, to))
  all_ended a (suc n) old new (count, between, steps, ended, rest) t from to = elim (first_or (a) t from) [
    | inl here ↦ subst (λ u. HasEnded script u (thread_at new u)) here (stays_ends a (range_with_len (a + 1) n) between new ended rest)
    | inr later ↦ all_ended (a + 1) n between new rest t (omega (arith, later)) (omega (arith, to))
  ]
    where
      first_or : (a t : ℕ) → a ≤ t → (a ≡ t) ⊎ (a < t)
      first_or zero zero h = inl refl
      first_or zero (suc t) h = inr (omega arith)
      first_or (suc a) zero h = absurd (omega (arith, h))
      first_or (suc a) (suc t) h = elim (first_or a t (omega (arith, h))) [ inl same ↦ inl (ap suc same) | inr less ↦ inr (omega (arith, less)) ]

  -- of a phase
  pub phase_ended : (phase : ℕ) (old new : MachineValue) → phase < length script.phases → EndInTurn script (threads_of_phase script phase) old new → (t : ℕ) → phase_in script.phases t ≡ phase → HasEnded script t (thread_at new t)
  phase_ended phase old new below ends t is =
      let its = of_phase script phase t below is in
      all_ended (first_thread script phase) (length (phase_at script phase).threads) old new ends t its.0 its.1

  -- ---- phases

  -- one more phase
  pub PlaysPhasesBy-push : (orders : List (List ℕ)) (order : List ℕ) (old between new : MachineValue) → PlaysPhasesBy script orders old between → PlaysPhaseBy script order between new → PlaysPhasesBy script (orders ++ order ∷ []) old new
  PlaysPhasesBy-push [] order old between new same phase = (new, subst (λ s. PlaysPhaseBy script order s new) same phase, refl)
  PlaysPhasesBy-push (first ∷ orders) order old between new (next, one, rest) phase = (next, one, PlaysPhasesBy-push orders order next between new rest phase)
