-- A play by order lists is scheduled, and what is scheduled is a run.
use Rattle.std.proofs.Common.{◌≡◌, ℕ, zero, suc, ◌+◌, List, [], ◌∷◌, ◌++◌, length, Option, Some, None, refl, ◌∙◌, ap, subst, arith}
use Rattle.std.specs.Prelude.{replicate}
use Rattle.run_law.specs.Runs.{IsRun}
use Rattle.script_ops.specs.Values.{ScriptValue}
use Rattle.step_world.proofs.laws.Plays.{step_phase}
use Rattle.step_world.proofs.laws.Schedules.{each_end}
use Rattle.step_world.specs.Machine.{MachineValue, Steps}
use Rattle.step_world.specs.Schedules.{Event, Next, Plays, Step}
use Rattle.step_world.specs.Play.{EndInTurn, LetsGo, PlaysPhaseBy, PlaysPhasesBy, StepsHolding, StepsOf}
use Rattle.schedule_law.specs.Schedules.{EachPlayIsScheduled, EachScheduleIsARun}
use Rattle.schedule_law.proofs.Events.{Plays-append}

-- events that lead from one state to another, so many phases later
record Leads (script : ScriptValue) (phases : ℕ) (old new : MachineValue) : Type 0 where
  pub events : List Event
  pub plays : Plays script events old new
  pub phase : new.phase ≡ old.phase + phases

-- none do
Leads-none : (script : ScriptValue) (old new : MachineValue) → new ≡ old → Leads script 0 old new
Leads-none script old new same = record { events = []; plays = same; phase = ap (λ (s : MachineValue). s.phase) same ∙ omega arith }

-- one step does
Leads-step : (script : ScriptValue) (t : ℕ) (old new : MachineValue) → Steps script t old new → Leads script 0 old new
Leads-step script t old new step = record { events = Step t ∷ []; plays = (new, step, refl); phase = step_phase script t old new step ∙ omega arith }

-- some do, and then others
Leads-append : (script : ScriptValue) (m n : ℕ) (old between new : MachineValue) → Leads script m old between → Leads script n between new → Leads script (m + n) old new
Leads-append script m n old between new a b = record {
  events = a.events ++ b.events;
  plays = Plays-append script a.events b.events old between new a.plays b.plays;
  phase = (let p = a.phase in let q = b.phase in omega (arith, p, q));
}

-- steps of threads do
Leads-steps : (script : ScriptValue) (ts : List ℕ) (old new : MachineValue) → StepsOf script ts old new → Leads script 0 old new
Leads-steps script [] old new same = Leads-none script old new same
Leads-steps script (t ∷ ts) old new (between, step, rest) = Leads-append script 0 0 old between new (Leads-step script t old between step) (Leads-steps script ts between new rest)

-- and those of a thread that holds the tree
Leads-holding : (script : ScriptValue) (t n : ℕ) (old new : MachineValue) → StepsHolding script t n old new → Leads script 0 old new
Leads-holding script t zero old new same = Leads-none script old new same
Leads-holding script t (suc n) old new (between, step, holds, rest) = Leads-append script 0 0 old between new (Leads-step script t old between step) (Leads-holding script t n between new rest)

-- until it lets go
Leads-lets_go : (script : ScriptValue) (holder : Option ℕ) (old new : MachineValue) → LetsGo script holder old new → Leads script 0 old new
Leads-lets_go script None old new same = Leads-none script old new same
Leads-lets_go script (Some t) old new (n, between, holds, step, free) = Leads-append script 0 0 old between new (Leads-holding script t n old between holds) (Leads-step script t between new step)

-- and those of threads to their ends
Leads-ends : (script : ScriptValue) (ts : List ℕ) (old new : MachineValue) → EndInTurn script ts old new → Leads script 0 old new
Leads-ends script [] old new same = Leads-none script old new same
Leads-ends script (t ∷ ts) old new (n, between, steps, ended, rest) = Leads-append script 0 0 old between new (Leads-steps script (replicate n t) old between steps) (Leads-ends script ts between new rest)

-- one phase
Leads-phase : (script : ScriptValue) (order : List ℕ) (old new : MachineValue) → PlaysPhaseBy script order old new → Leads script 1 old new
Leads-phase script order old new plays =
    Leads-append script 0 1 old plays.ordered new (Leads-steps script order old plays.ordered plays.order)
    (Leads-append script 0 1 plays.ordered plays.free new (Leads-lets_go script plays.ordered.holder plays.ordered plays.free plays.lets_go)
    (Leads-append script 0 1 plays.free plays.ended new (Leads-ends script _ plays.free plays.ended plays.rest)
    (record { events = Next ∷ []; plays = (new, plays.next, refl); phase = plays.next.phase })))

-- so many phases
Leads-phases : (script : ScriptValue) (orders : List (List ℕ)) (old new : MachineValue) → PlaysPhasesBy script orders old new → Leads script (length orders) old new
Leads-phases script [] old new same = Leads-none script old new same
Leads-phases script (order ∷ orders) old new (between, phase, rest) =
    subst (λ n. Leads script n old new) (omega arith)
    (Leads-append script 1 (length orders) old between new (Leads-phase script order old between phase) (Leads-phases script orders between new rest))

-- a play by order lists is scheduled
pub plays_are_scheduled : EachPlayIsScheduled
plays_are_scheduled script orders journals play =
    let all = Leads-phases script orders play.first play.last play.plays in
    record {
      events = all.events;
      first = play.first;
      last = play.last;
      opening = play.opening;
      plays = all.plays;
      over = (let later = all.phase in let each = play.each in let start = play.opening.phase in omega (arith, later, each, start));
      are = play.are;
    }

-- what is scheduled is a run
pub schedules_are_runs : EachScheduleIsARun
schedules_are_runs script journals some s = subst (λ j. IsRun script j) s.are (each_end script s.events s.first s.last some s.opening s.plays s.over)
