-- How the thread that holds the tree lets go, and how a thread comes to its end.
-- (For functions and proofs: no promise of the program stands on it.)
use Rattle.std.specs.Prelude.{◌≡◌, ℕ, ◌+◌, ◌-◌, ◌*◌, ◌<◌, ◌⊎◌, if◌then◌else◌, nat_lt, List, length, replicate, Option, Some, None}
use Rattle.run_law.specs.Jobs.{jobs_of}
use Rattle.run_law.specs.TreeHistory.{TreeEntryValue}
use Rattle.script_ops.specs.Values.{ScriptValue, op_at, ops_of}
use Rattle.script_ops.specs.declared.op.Op.{Op}
use Rattle.script_ops.specs.declared.op.Op.TheVariants.{Access}
use Rattle.step_world.specs.Machine.{MachineValue, floor_for, thread_at}
use Rattle.step_world.specs.Schedules.{HasEnded}
use Rattle.step_world.specs.Play.{LetsGo, StepsHolding, StepsOf}
use Rattle.step_world.specs.declared.thread_state.ThreadState.{ThreadState}
use Rattle.step_world.specs.declared.thread_state.ThreadState.TheVariants.{Ready, Looking, Following, Tagged}

-- ---- the thread that holds the tree

-- the thread that held the tree has let go, and its command is done
abbrev pub HasLetGo : ScriptValue → Option ℕ → MachineValue → MachineValue → Type 0
HasLetGo script None old new = new ≡ old
HasLetGo script (Some t) old new = LetsGo script (Some t) old new × (new.holder ≡ None) × (thread_at new t ≡ (record { next = (thread_at old t).next + 1; state = Ready }))

-- the thread still holds the tree, in the same command
pub record HoldsOn (script : ScriptValue) (t : ℕ) (old now : MachineValue) : Type 0 where
  pub count : ℕ
  pub steps : StepsHolding script t count old now
  pub holder : now.holder ≡ Some t
  pub next : (thread_at now t).next ≡ (thread_at old t).next

-- the thread still holds the tree, or has let go
abbrev pub IsLettingGo : ScriptValue → Option ℕ → MachineValue → MachineValue → Type 0
IsLettingGo script None old now = now ≡ old
IsLettingGo script (Some t) old now = HoldsOn script t old now ⊎ HasLetGo script (Some t) old now

-- how many steps the command that holds the tree has still to take
abbrev pub steps_from : ScriptValue → List TreeEntryValue → ThreadState → Op → ℕ
steps_from script tree Ready op = 0
steps_from script tree (Looking made) op = length (jobs_of script tree (length tree) op) + 1 - made
steps_from script tree (Following made) op = length (jobs_of script tree (length tree - 1) op) - made
steps_from script tree (Tagged tag) op = 0

-- the same for the op that a thread is in, and 0 where there is none
abbrev pub steps_to_go : ScriptValue → List TreeEntryValue → ThreadState → Option Op → ℕ
steps_to_go script tree place None = 0
steps_to_go script tree place (Some op) = steps_from script tree place op

-- the same for the thread that holds the tree, and 0 where none does
abbrev pub holding_left : ScriptValue → MachineValue → Option ℕ → ℕ
holding_left script s None = 0
holding_left script s (Some t) = steps_to_go script s.journals.tree (thread_at s t).state (op_at script t (thread_at s t).next)

-- ---- a thread that steps to its end

-- the thread is at its end after so many steps
pub record EndsThread (script : ScriptValue) (t : ℕ) (old new : MachineValue) : Type 0 where
  pub count : ℕ
  pub steps : StepsOf script (replicate count t) old new
  pub ended : HasEnded script t (thread_at new t)

-- While nobody holds the tree, how many turns a thread is from the end of its op: one with a fresh tag, two before its op, and
-- three with a stale tag.
abbrev pub turns_from : ScriptValue → MachineValue → Option Op → ThreadState → ℕ
turns_from script s (Some (Access task cpu addr)) (Tagged tag) = if nat_lt tag.epoch (floor_for script s tag addr) then 3 else 1
turns_from script s op place = 2

-- at most how many turns a thread is from its own end
abbrev pub turns_left : ScriptValue → MachineValue → ℕ → ℕ
turns_left script s t = 3 * (length (ops_of script t) - (thread_at s t).next) + turns_from script s (op_at script t (thread_at s t).next) (thread_at s t).state

-- the thread took some steps, after which nobody holds the tree and it is nearer to its end
pub record TakesTurn (script : ScriptValue) (t : ℕ) (old new : MachineValue) : Type 0 where
  pub count : ℕ
  pub steps : StepsOf script (replicate count t) old new
  pub nearer : turns_left script new t < turns_left script old t
  pub free : new.holder ≡ None
  pub phase : new.phase ≡ old.phase
