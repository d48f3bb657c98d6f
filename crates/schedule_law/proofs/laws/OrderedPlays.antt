-- What is scheduled can be played again by order lists.
use Rattle.std.proofs.Common.{◌≡◌, inl, inr, ℕ, zero, suc, ◌+◌, ◌<◌, ◌≤◌, ◌==◌, List, [], ◌∷◌, ◌++◌, length, Option, Some, None, refl, sym, ◌∙◌, ap, subst, arith}
use Rattle.std.specs.Prelude.{IsSome}
use Rattle.std.specs.List.{range_with_len}
use Rattle.std.proofs.lemmas.Bool.{MatchBool-at_false, MatchBool-at_true, cases_Bool, cases_order, eqb-true}
use Rattle.run_law.proofs.laws.Endings.{op_phase}
use Rattle.run_law.proofs.laws.OpMarks.{not_some}
use Rattle.run_law.specs.Ops.{phase_in}
use Rattle.run_law.specs.Progress.{Progress}
use Rattle.script_ops.specs.Values.{ScriptValue, first_thread, op_at, phase_at}
use Rattle.script_ops.specs.declared.op.Op.{Op}
use Rattle.step_world.proofs.laws.AccessSteps.{some_can_be}
use Rattle.run_law.proofs.laws.PhaseThreads.{in_phase}
use Rattle.step_world.proofs.laws.Plays.{step_phase}
use Rattle.step_world.specs.Machine.{MachineValue, StepOf, Steps, thread_at}
use Rattle.step_world.specs.Schedules.{Event, GoesOn, HasEnded, IsOver, Next, Plays, Step}
use Rattle.step_world.specs.Moments.{IsRunSoFar, progress_by, progress_in}
use Rattle.step_world.specs.Play.{EndInTurn, LetsGo, PlaysPhaseBy, PlaysPhasesBy, StepsOf}
use Rattle.schedule_law.specs.Parts.{IsReached}
use Rattle.schedule_law.specs.Schedules.{EachScheduleIsAPlay}
use Rattle.schedule_law.proofs.StepStates.{so_far}
use Rattle.schedule_law.proofs.Events.{Plays-push}

-- one step more
StepsOf-push : (script : ScriptValue) (ts : List ℕ) (t : ℕ) (a b c : MachineValue) → StepsOf script ts a b → Steps script t b c → StepsOf script (ts ++ t ∷ []) a c
StepsOf-push script [] t a b c same step = (c, subst (λ x. Steps script t x c) same step, refl)
StepsOf-push script (x ∷ xs) t a b c steps step = (steps.0, steps.1, StepsOf-push script xs t steps.0 b c steps.2 step)

-- ---- when the last phase is over

-- a step of no op changes nothing
StepOf-no_op : (script : ScriptValue) (t : ℕ) (o : Option Op) (old new : MachineValue) → ((op : Op) → o ≡ Some op → ⊥) → StepOf script t o old new → new ≡ old
StepOf-no_op script t None old new none step = step
StepOf-no_op script t (Some op) old new none step = absurd (none op refl)

-- so does any step
Steps-over : (script : ScriptValue) (t : ℕ) (old new : MachineValue) → IsOver script old → Steps script t old new → new ≡ old
Steps-over script t old new over step =
    let one : Type 0 = StepOf script t (op_at script t (thread_at old t).next) old new in
    elim (cases_Bool (phase_in script.phases t == old.phase)) [
      | inl here ↦ StepOf-no_op script t (op_at script t (thread_at old t).next) old new
          (λ op is. let low = op_phase script t (thread_at old t).next op is in let same = eqb-true (phase_in script.phases t) old.phase here in omega (arith, low, same, over))
          (MatchBool-at_true one (new ≡ old) here step)
      | inr away ↦ MatchBool-at_false one (new ≡ old) away step
    ]

-- the journals stay as they are
journals-over : (script : ScriptValue) (events : List Event) (old last : MachineValue) → IsOver script old → Plays script events old last → last.journals ≡ old.journals
journals-over script [] old last over same = ap (λ (s : MachineValue). s.journals) same
journals-over script (Step t ∷ es) old last over plays =
    let same : plays.0 ≡ old = Steps-over script t old plays.0 over plays.1 in
    journals-over script es plays.0 last (subst (λ (s : MachineValue). IsOver script s) (sym same) over) plays.2 ∙ ap (λ (s : MachineValue). s.journals) same
journals-over script (Next ∷ es) old last over plays =
    let next = plays.1.phase in
    journals-over script es plays.0 last (omega (arith, over, next)) plays.2 ∙ plays.1.journals

-- ---- when a phase is over

-- nobody holds the tree
holder-ended : (script : ScriptValue) (s : MachineValue) → IsRunSoFar script s → ((t : ℕ) → phase_in script.phases t ≡ s.phase → HasEnded script t (thread_at s t)) → (o : Option ℕ) → s.holder ≡ o → o ≡ None
holder-ended script s far ended None is = refl
holder-ended script s far ended (Some t) is =
    let holds : IsSome (progress_in s t).made = (far.held t).1 is in
    let can = some_can_be s s.holder in
    let phase = (far.kept can.0 can.1).in_phase in
    absurd (elim (cases_order (phase_in script.phases t) s.phase) [
      | inl here ↦ not_some (progress_in s t).made (ap (λ (x : Progress). x.made) (ap (progress_by (thread_at s t).next) (ended t here).1)) holds
      | inr apart ↦ elim apart [
        | inl before ↦ not_some (progress_in s t).made (ap (λ (x : Progress). x.made) (phase.earlier t before)) holds
        | inr after ↦ not_some (progress_in s t).made (ap (λ (x : Progress). x.made) (phase.later t after)) holds
      ]
    ])

-- its threads are at their ends
EndInTurn-ended : (script : ScriptValue) (s : MachineValue) (first n : ℕ) → ((t : ℕ) → first ≤ t → t < first + n → HasEnded script t (thread_at s t)) → EndInTurn script (range_with_len first n) s s
EndInTurn-ended script s first zero each = refl
EndInTurn-ended script s first (suc n) each = (zero, s, refl, each first (omega arith) (omega arith), EndInTurn-ended script s (first + 1) n (λ t from to. each t (omega (arith, from)) (omega (arith, to))))

-- it is played by the steps so far
PlaysPhaseBy-steps : (script : ScriptValue) (ts : List ℕ) (start old new : MachineValue) → IsRunSoFar script old → StepsOf script ts start old → start.phase ≡ old.phase → old.phase < length script.phases → GoesOn script old new → PlaysPhaseBy script ts start new
PlaysPhaseBy-steps script ts start old new far steps phase below goes = record {
  ordered = old;
  free = old;
  ended = old;
  order = steps;
  lets_go = subst (λ (o : Option ℕ). LetsGo script o old old) (sym (holder-ended script old far goes.ended old.holder refl)) refl;
  rest = EndInTurn-ended script old (first_thread script start.phase) (length (phase_at script start.phase).threads)
      (λ t from to. goes.ended t (in_phase script start.phase t (omega (arith, phase, below)) from to ∙ phase));
  next = goes;
}

-- ---- the orders

pub record HasOrders (script : ScriptValue) (r : ℕ) (start last : MachineValue) : Type 0 where
  pub orders : List (List ℕ)
  pub end : MachineValue
  pub count : length orders ≡ r
  pub plays : PlaysPhasesBy script orders start end
  pub same : end.journals ≡ last.journals

HasOrders-events : (script : ScriptValue) → 0 < script.machine.slices → (events : List Event) (ts : List ℕ) (start old last : MachineValue) (r : ℕ)
    → IsReached script old → StepsOf script ts start old → start.phase ≡ old.phase → old.phase + (r + 1) ≡ length script.phases → Plays script events old last → IsOver script last → HasOrders script (r + 1) start last
HasOrders-events script some [] ts start old last r reached steps phase left same over = absurd (let there = ap (λ (s : MachineValue). s.phase) same in omega (arith, there, over, left))
HasOrders-events script some (Step t ∷ es) ts start old last r reached steps phase left plays over =
    let here : plays.0.phase ≡ old.phase = step_phase script t old plays.0 plays.1 in
    HasOrders-events script some es (ts ++ t ∷ []) start plays.0 last r
    (record { events = reached.events ++ Step t ∷ []; first = reached.first; opening = reached.opening; plays = Plays-push script reached.events (Step t) reached.first old plays.0 reached.plays plays.1 })
    (StepsOf-push script ts t start old plays.0 steps plays.1) (phase ∙ sym here) (omega (arith, here, left)) plays.2 over
HasOrders-events script some (Next ∷ es) ts start old last zero reached steps phase left plays over =
    let next = plays.1.phase in
    let played = PlaysPhaseBy-steps script ts start old plays.0 (so_far script old some reached) steps phase (omega (arith, left)) plays.1 in
    record {
      orders = ts ∷ [];
      end = plays.0;
      count = omega arith;
      plays = (plays.0, played, refl);
      same = sym (journals-over script es plays.0 last (omega (arith, next, left)) plays.2);
    }
HasOrders-events script some (Next ∷ es) ts start old last (suc r) reached steps phase left plays over =
    let next = plays.1.phase in
    let played = PlaysPhaseBy-steps script ts start old plays.0 (so_far script old some reached) steps phase (omega (arith, left)) plays.1 in
    let rest = HasOrders-events script some es [] plays.0 plays.0 last r
    (record { events = reached.events ++ Next ∷ []; first = reached.first; opening = reached.opening; plays = Plays-push script reached.events Next reached.first old plays.0 reached.plays plays.1 })
    refl refl (omega (arith, next, left)) plays.2 over in
    record {
      orders = ts ∷ rest.orders;
      end = rest.end;
      count = (let n = rest.count in omega (arith, n));
      plays = (plays.0, played, rest.plays);
      same = rest.same;
    }

-- with no phase nothing happens
HasOrders-first : (script : ScriptValue) → 0 < script.machine.slices → (events : List Event) (first last : MachineValue) (n : ℕ) → length script.phases ≡ n → first.phase ≡ 0
    → IsReached script first → Plays script events first last → IsOver script last → HasOrders script n first last
HasOrders-first script some events first last zero none phase reached plays over = record {
  orders = [];
  end = first;
  count = refl;
  plays = refl;
  same = sym (journals-over script events first last (omega (arith, none, phase)) plays);
}
HasOrders-first script some events first last (suc n) is phase reached plays over =
    let all = HasOrders-events script some events [] first first last n reached refl refl (omega (arith, phase, is)) plays over in
    record { orders = all.orders; end = all.end; count = (let k = all.count in omega (arith, k)); plays = all.plays; same = all.same }

-- what is scheduled is a play by order lists
pub schedules_are_plays : EachScheduleIsAPlay
schedules_are_plays script journals some s =
    let all = HasOrders-first script some s.events s.first s.last (length script.phases) refl s.opening.phase (record { events = []; first = s.first; opening = s.opening; plays = refl }) s.plays s.over in
    (all.orders, record { first = s.first; last = all.end; opening = s.opening; each = all.count; plays = all.plays; are = all.same ∙ s.are })
