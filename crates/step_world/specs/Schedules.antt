-- The opening state, the next phase, the end, and schedules: what may happen, one after the other.
use Rattle.std.specs.Prelude.{List, None, [], length, ℕ, ◌+◌, ◌∷◌, ◌≡◌, ◌≤◌}
use Rattle.machine.specs.Slices.{slice_count}
use Rattle.run_law.specs.Journals.{slice_at}
use Rattle.run_law.specs.Ops.{phase_in}
use Rattle.script_ops.specs.Values.{ScriptValue, ops_of}
use Rattle.step_world.specs.declared.thread_state.ThreadState.TheVariants.{Ready}
use Rattle.step_world.specs.declared.thread_state.Thread.{Thread}
use Rattle.step_world.specs.Machine.{MachineValue, opening_thread, thread_at, Steps}

-- a thread is at its end
abbrev pub HasEnded : ScriptValue → ℕ → Thread → Type 0
HasEnded script t v = (v.next ≡ length (ops_of script t)) × (v.state ≡ Ready)

-- the state before the first step
pub record IsOpening (script : ScriptValue) (s : MachineValue) : Type 0 where
  pub tree : s.journals.tree ≡ []
  pub count : length s.journals.slices ≡ slice_count script.machine
  pub slices : (i : ℕ) → slice_at s.journals i ≡ []
  pub phase : s.phase ≡ 0
  pub holder : s.holder ≡ None
  pub threads : (t : ℕ) → thread_at s t ≡ opening_thread

-- when all threads of a phase have ended, the next one begins
pub record GoesOn (script : ScriptValue) (old new : MachineValue) : Type 0 where
  pub ended : (t : ℕ) → phase_in script.phases t ≡ old.phase → HasEnded script t (thread_at old t)
  pub journals : new.journals ≡ old.journals
  pub holder : new.holder ≡ old.holder
  pub threads : new.threads ≡ old.threads
  pub phase : new.phase ≡ old.phase + 1

-- (For proofs.) the last phase is over
abbrev pub IsOver : ScriptValue → MachineValue → Type 0
IsOver script s = length script.phases ≤ s.phase

-- ---- schedules

-- (For proofs.) what may happen: a thread takes a step, or the next phase begins
pub data Event : Type 0 where
  Step : ℕ → Event
  Next : Event

-- (For proofs.) what an event does
abbrev pub Happens : ScriptValue → Event → MachineValue → MachineValue → Type 0
Happens script (Step t) old new = Steps script t old new
Happens script Next old new = GoesOn script old new

-- (For proofs.) these events happen, one after the other
abbrev pub Plays : ScriptValue → List Event → MachineValue → MachineValue → Type 0
Plays script [] old new = new ≡ old
Plays script (e ∷ es) old new = (between : MachineValue) × Happens script e old between × Plays script es between new
