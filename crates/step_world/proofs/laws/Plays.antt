-- The play of a script is a schedule, and its journals are a run.
use Rattle.std.proofs.Common.{◌≡◌, ℕ, zero, suc, ◌+◌, ◌<◌, inl, inr, List, [], ◌∷◌, length, replicate, Option, Some, None, refl, ap, ◌∙◌, subst, arith}
use Rattle.run_law.specs.Journals.{JournalsValue}
use Rattle.run_law.specs.Runs.{IsRun}
use Rattle.script_ops.specs.Values.{ScriptValue}
use Rattle.step_world.proofs.EndedThreads.{step_moves}
use Rattle.step_world.proofs.laws.Schedules.{each_end}
use Rattle.step_world.specs.Machine.{MachineValue, Steps}
use Rattle.step_world.specs.Schedules.{Event, Next, Plays, Step}
use Rattle.step_world.specs.Play.{EndInTurn, IsPlayBy, LetsGo, PlaysPhaseBy, PlaysPhasesBy, StepsHolding, StepsOf}

-- a schedule
abbrev Schedule : ScriptValue → MachineValue → MachineValue → Type 0
Schedule script old new = (events : List Event) × Plays script events old new

-- no event
none_yet : (script : ScriptValue) (old new : MachineValue) → new ≡ old → Schedule script old new
none_yet script old new same = ([], same)

-- one step before others
one_step : (script : ScriptValue) (t : ℕ) (old between new : MachineValue) → Steps script t old between → Schedule script between new → Schedule script old new
one_step script t old between new step (events, plays) = (Step t ∷ events, (between, step, plays))

-- events after others
then_more : (script : ScriptValue) (events more : List Event) (old between new : MachineValue) → Plays script events old between → Plays script more between new → Schedule script old new
then_more script [] more old between new same plays = (more, subst (λ s. Plays script more s new) same plays)
then_more script (e ∷ es) more old between new (first, happens, rest) plays =
    let (all, both) = then_more script es more first between new rest plays in
    (e ∷ all, (first, happens, both))

-- schedules after one another
then : (script : ScriptValue) (old between new : MachineValue) → Schedule script old between → Schedule script between new → Schedule script old new
then script old between new (events, plays) (more, both) = then_more script events more old between new plays both

-- steps of threads
steps_schedule : (script : ScriptValue) (ts : List ℕ) (old new : MachineValue) → StepsOf script ts old new → Schedule script old new
steps_schedule script [] old new same = none_yet script old new same
steps_schedule script (t ∷ ts) old new (between, step, rest) = one_step script t old between new step (steps_schedule script ts between new rest)

-- steps of the one that holds the tree
holding_schedule : (script : ScriptValue) (t n : ℕ) (old new : MachineValue) → StepsHolding script t n old new → Schedule script old new
holding_schedule script t zero old new same = none_yet script old new same
holding_schedule script t (suc n) old new (between, step, holds, rest) = one_step script t old between new step (holding_schedule script t n between new rest)

-- until it lets go
lets_go_schedule : (script : ScriptValue) (holder : Option ℕ) (old new : MachineValue) → LetsGo script holder old new → Schedule script old new
lets_go_schedule script None old new same = none_yet script old new same
lets_go_schedule script (Some t) old new (n, between, holds, step, free) = then script old between new (holding_schedule script t n old between holds) (one_step script t between new new step (none_yet script new new refl))

-- threads to their ends
ends_schedule : (script : ScriptValue) (ts : List ℕ) (old new : MachineValue) → EndInTurn script ts old new → Schedule script old new
ends_schedule script [] old new same = none_yet script old new same
ends_schedule script (t ∷ ts) old new (n, between, steps, ended, rest) = then script old between new (steps_schedule script (replicate n t) old between steps) (ends_schedule script ts between new rest)

-- one phase
phase_schedule : (script : ScriptValue) (order : List ℕ) (old new : MachineValue) → PlaysPhaseBy script order old new → Schedule script old new
phase_schedule script order old new plays =
    then script old plays.ordered new (steps_schedule script order old plays.ordered plays.order)
    (then script plays.ordered plays.free new (lets_go_schedule script plays.ordered.holder plays.ordered plays.free plays.lets_go)
    (then script plays.free plays.ended new (ends_schedule script _ plays.free plays.ended plays.rest) (Next ∷ [], (new, plays.next, refl))))

-- so many phases
phases_schedule : (script : ScriptValue) (orders : List (List ℕ)) (old new : MachineValue) → PlaysPhasesBy script orders old new → Schedule script old new
phases_schedule script [] old new same = none_yet script old new same
phases_schedule script (order ∷ orders) old new (between, phase, rest) = then script old between new (phase_schedule script order old between phase) (phases_schedule script orders between new rest)

-- ---- how many phases were played

-- a step stays in its phase
same_phase : (old new : MachineValue) → new ≡ old → new.phase ≡ old.phase
same_phase old new same = ap (λ (s : MachineValue). s.phase) same

-- a step stays in its phase
pub step_phase : (script : ScriptValue) (t : ℕ) (old new : MachineValue) → Steps script t old new → new.phase ≡ old.phase
step_phase script t old new step = elim (step_moves script t old new step) [
  | inl same ↦ same_phase old new same
  | inr moved ↦ moved.1.phase
]

-- so do steps
steps_phase : (script : ScriptValue) (ts : List ℕ) (old new : MachineValue) → StepsOf script ts old new → new.phase ≡ old.phase
steps_phase script [] old new same = same_phase old new same
steps_phase script (t ∷ ts) old new (between, step, rest) = steps_phase script ts between new rest ∙ step_phase script t old between step

-- and those of the one that holds the tree
holding_phase : (script : ScriptValue) (t n : ℕ) (old new : MachineValue) → StepsHolding script t n old new → new.phase ≡ old.phase
holding_phase script t zero old new same = same_phase old new same
holding_phase script t (suc n) old new (between, step, holds, rest) = holding_phase script t n between new rest ∙ step_phase script t old between step

-- until it lets go
lets_go_phase : (script : ScriptValue) (holder : Option ℕ) (old new : MachineValue) → LetsGo script holder old new → new.phase ≡ old.phase
lets_go_phase script None old new same = same_phase old new same
lets_go_phase script (Some t) old new (n, between, holds, step, free) = step_phase script t between new step ∙ holding_phase script t n old between holds

-- and those of threads to their ends
ends_phase : (script : ScriptValue) (ts : List ℕ) (old new : MachineValue) → EndInTurn script ts old new → new.phase ≡ old.phase
ends_phase script [] old new same = same_phase old new same
ends_phase script (t ∷ ts) old new (n, between, steps, ended, rest) = ends_phase script ts between new rest ∙ steps_phase script (replicate n t) old between steps

-- after one phase the next one begins
pub phase_count : (script : ScriptValue) (order : List ℕ) (old new : MachineValue) → PlaysPhaseBy script order old new → new.phase ≡ old.phase + 1
phase_count script order old new plays =
    omega (arith, plays.next.phase, ends_phase script _ plays.free plays.ended plays.rest, lets_go_phase script plays.ordered.holder plays.ordered plays.free plays.lets_go, steps_phase script order old plays.ordered plays.order)

-- so many phases are played
phases_count : (script : ScriptValue) (orders : List (List ℕ)) (old new : MachineValue) → PlaysPhasesBy script orders old new → new.phase ≡ old.phase + length orders
phases_count script [] old new same = same_phase old new same ∙ omega arith
phases_count script (order ∷ orders) old new (between, plays, rest) =
    omega (arith, phases_count script orders between new rest, phase_count script order old between plays)

-- ---- the run

-- the journals of a play are a run, by whichever order lists
pub play_is_a_run : (script : ScriptValue) (orders : List (List ℕ)) (journals : JournalsValue) → 0 < script.machine.slices → IsPlayBy script orders journals → IsRun script journals
play_is_a_run script orders journals some play =
    let (events, plays) = phases_schedule script orders play.first play.last play.plays in
    subst (λ j. IsRun script j) play.are
    (each_end script events play.first play.last some play.opening plays (omega (arith, phases_count script orders play.first play.last play.plays, play.opening.phase, play.each)))
