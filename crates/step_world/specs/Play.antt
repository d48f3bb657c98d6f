-- The play of a script: each phase by its order list, then the thread that holds the tree until it lets go, then each thread
-- of the phase in rising order to its end.
use Rattle.std.specs.List.{range_with_len}
use Rattle.std.specs.Prelude.{List, None, Option, Some, [], length, map, replicate, suc, zero, ℕ, ◌∷◌, ◌≡◌}
use Rattle.run_law.specs.Journals.{JournalsValue}
use Rattle.script_ops.specs.Values.{PhaseValue, ScriptValue, first_thread, phase_at}
use Rattle.step_world.specs.Machine.{MachineValue, thread_at, Steps}
use Rattle.step_world.specs.Schedules.{HasEnded, IsOpening, GoesOn}

-- these threads take a step each, one after the other
abbrev pub StepsOf : ScriptValue → List ℕ → MachineValue → MachineValue → Type 0
StepsOf script [] old new = new ≡ old
StepsOf script (t ∷ ts) old new = (between : MachineValue) × Steps script t old between × StepsOf script ts between new

-- a thread takes so many steps, and holds the tree after each
abbrev pub StepsHolding : ScriptValue → ℕ → ℕ → MachineValue → MachineValue → Type 0
StepsHolding script t zero old new = new ≡ old
StepsHolding script t (suc n) old new = (between : MachineValue) × Steps script t old between × (between.holder ≡ Some t) × StepsHolding script t n between new

-- the thread that holds the tree steps until it lets go
abbrev pub LetsGo : ScriptValue → Option ℕ → MachineValue → MachineValue → Type 0
LetsGo script None old new = new ≡ old
LetsGo script (Some t) old new = (n : ℕ) × (between : MachineValue) × StepsHolding script t n old between × Steps script t between new × (new.holder ≡ None)

-- threads step to their end, one after the other
abbrev pub EndInTurn : ScriptValue → List ℕ → MachineValue → MachineValue → Type 0
EndInTurn script [] old new = new ≡ old
EndInTurn script (t ∷ ts) old new = (n : ℕ) × (between : MachineValue) × StepsOf script (replicate n t) old between × HasEnded script t (thread_at between t) × EndInTurn script ts between new

-- the threads of a phase, rising
abbrev pub threads_of_phase : ScriptValue → ℕ → List ℕ
threads_of_phase script phase = range_with_len (first_thread script phase) (length (phase_at script phase).threads)

-- one phase by an order list: the steps of the list, then those of the thread that holds the tree, then each thread to its end
pub record PlaysPhaseBy (script : ScriptValue) (steps : List ℕ) (old new : MachineValue) : Type 0 where
  pub ordered : MachineValue
  pub free : MachineValue
  pub ended : MachineValue
  pub order : StepsOf script steps old ordered
  pub lets_go : LetsGo script ordered.holder ordered free
  pub rest : EndInTurn script (threads_of_phase script old.phase) free ended
  pub next : GoesOn script ended new

-- these phases are played, one after the other, each by one of these order lists
abbrev pub PlaysPhasesBy : ScriptValue → List (List ℕ) → MachineValue → MachineValue → Type 0
PlaysPhasesBy script [] old new = new ≡ old
PlaysPhasesBy script (order ∷ orders) old new = (between : MachineValue) × PlaysPhaseBy script order old between × PlaysPhasesBy script orders between new

-- these are the journals of the play of the script by these order lists, one for each phase, in place of its own
pub record IsPlayBy (script : ScriptValue) (orders : List (List ℕ)) (journals : JournalsValue) : Type 0 where
  pub first : MachineValue
  pub last : MachineValue
  pub opening : IsOpening script first
  pub each : length orders ≡ length script.phases
  pub plays : PlaysPhasesBy script orders first last
  pub are : last.journals ≡ journals

-- the order lists of these phases
abbrev pub orders_of : List PhaseValue → List (List ℕ)
orders_of phases = map (λ (phase : PhaseValue). phase.order) phases

-- these are the journals of the play of the script, by its own order lists
abbrev pub IsPlay : ScriptValue → JournalsValue → Type 0
IsPlay script journals = IsPlayBy script (orders_of script.phases) journals
