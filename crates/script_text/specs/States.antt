-- How far a reader of a script has come.
use Rattle.std.specs.Prelude.{◌≡◌, ℕ, ◌*◌, ◌+◌, ◌≤◌, List, [], ◌∷◌, ◌++◌, length, if◌then◌else◌, Bool, true, false, All, sum_by}
use Rattle.machine.specs.declared.parameters.Parameters.{Parameters}
use Rattle.machine.specs.Maps.{parameters_of}
use Rattle.script_ops.specs.declared.op.Op.{Op}
use Rattle.script_lines.specs.declared.tasks.TaskRange.{TaskRange}
use Rattle.script_text.specs.declared.reader.Reader.{Reader}
use Rattle.script_text.specs.declared.kind.LinePosition.{LinePosition}
use Rattle.script_text.specs.declared.kind.LinePosition.TheVariants.{Start, Head, Thread}
use Rattle.script_lines.specs.Tasks.{RiseFrom, count_of, ids_of}
use Rattle.script_ops.specs.Values.{PhaseValue, threads_in}
use Rattle.script_ops.specs.Canonical.{AreAllShort, AreNamed}
use Rattle.script_ops.specs.Fits.{AreFit}
use Rattle.script_ops.specs.Weights.{weights_of}
use Rattle.path_names.specs.declared.paths.TheConstants.{MOST_PATH_NAMES}
use Rattle.script_ops.specs.declared.limits.TheConstants.{MOST_PHASES, MOST_PHASE_THREADS, MOST_TASKS, MOST_WEIGHT}

-- The lines so far: the closed phases, the order and the closed threads of the open phase, and the ops of the open thread.
pub record ReaderState : Type 0 where
  pub place : LinePosition
  pub machine : Parameters
  pub tasks : List TaskRange
  pub names : List (List ℕ)
  pub phases : List PhaseValue
  pub order : List ℕ
  pub threads : List (List Op)
  pub ops : List Op
  pub weight : ℕ

-- whether no machine line was read
abbrev pub is_start : LinePosition → Bool
is_start Start = true
is_start place = false

-- whether a machine line was read and no phase was
abbrev pub is_head : LinePosition → Bool
is_head Head = true
is_head place = false

-- whether a thread is open
abbrev pub is_thread : LinePosition → Bool
is_thread Thread = true
is_thread place = false

-- the open thread, if there is one, is closed
abbrev pub close_thread : ReaderState → ReaderState
close_thread s = if is_thread s.place then record s { threads = s.threads ++ s.ops ∷ []; ops = [] } else s

-- the open phase, if there is one, is closed
abbrev pub close_phase : ReaderState → ReaderState
close_phase s = if is_head s.place then s else record (close_thread s) { phases = s.phases ++ (record { order = s.order; threads = (close_thread s).threads }) ∷ []; order = []; threads = [] }

-- (For proofs.) the state of a reader
abbrev pub state_of : Reader → ReaderState
state_of r = record { place = r.place; machine = parameters_of r.machine; tasks = r.tasks.items; names = r.names; phases = r.phases.items; order = r.order.items; threads = r.threads.items; ops = r.ops; weight = r.weight }

-- (For proofs.) Limits while reading, with so many phases, threads of the open phase, and names still to come. Each op weighs at
-- least 1 and has few names, so these stay bounded.
pub record InLimits (more_phases more_threads extra : ℕ) (s : ReaderState) : Type 0 where
  pub names : length s.names ≤ MOST_PATH_NAMES * s.weight + extra
  pub weight : s.weight ≤ MOST_WEIGHT
  pub tasks : RiseFrom 0 s.tasks
  pub phases : length s.phases + more_phases ≤ MOST_PHASES
  pub threads : length s.threads + more_threads ≤ MOST_PHASE_THREADS
  pub each : All (λ p. length p.threads ≤ MOST_PHASE_THREADS) s.phases
  pub ops_named : AreNamed (length s.names) s.ops
  pub threads_named : All (AreNamed (length s.names)) s.threads
  pub phases_named : All (AreNamed (length s.names)) (threads_in s.phases)

-- (For proofs.) one more phase and one more thread can be closed
abbrev pub IsSound : ReaderState → Type 0
IsSound s = InLimits 1 1 0 s

-- (For proofs.) before the first phase
abbrev pub is_early : LinePosition → Bool
is_early Start = true
is_early Head = true
is_early place = false

-- (For proofs.) before the first phase there are no ops, threads or phases
abbrev pub BeginsBare : ReaderState → Type 0
BeginsBare s = is_early s.place ≡ true → (s.ops ≡ []) × (s.threads ≡ []) × (s.phases ≡ [])

-- (For proofs.) The tasks are few; the ops so far fit the machine and its tasks, their components have short names, and they weigh
-- no more than is counted.
pub record IsFit (s : ReaderState) : Type 0 where
  pub few_tasks : count_of s.tasks ≤ MOST_TASKS
  pub ops : AreFit s.machine (ids_of s.tasks) s.ops
  pub threads : All (AreFit s.machine (ids_of s.tasks)) s.threads
  pub phases : All (AreFit s.machine (ids_of s.tasks)) (threads_in s.phases)
  pub short_ops : AreAllShort s.names s.ops
  pub short_threads : All (AreAllShort s.names) s.threads
  pub short_phases : All (AreAllShort s.names) (threads_in s.phases)
  pub light : sum_by (weights_of s.machine) (threads_in s.phases) + sum_by (weights_of s.machine) s.threads + weights_of s.machine s.ops ≤ s.weight
  pub counted : s.weight ≤ MOST_WEIGHT

-- (For proofs.) what holds after the lines so far, whatever the next one is
pub record IsReady (s : ReaderState) : Type 0 where
  pub bare : BeginsBare s
  pub fit : IsFit s
