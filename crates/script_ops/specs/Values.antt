-- What a script says: a machine, its tasks, and phases of threads, each a list of ops.
use Rattle.std.specs.Prelude.{ℕ, ◌≤◌, List, [], length, take, All, Option, slice_get, slice_index_or, sum_by}
use Rattle.std.specs.List.{flat_map}
use Rattle.std.specs.List.Sorted.{IsStrictlyIncreasing}
use Rattle.machine.specs.Ranges.{InRange}
use Rattle.machine.specs.declared.parameters.Parameters.{Parameters}
use Rattle.script_ops.specs.declared.limits.TheConstants.{MOST_PHASES, MOST_PHASE_THREADS, MOST_TASKS, MOST_WEIGHT}
use Rattle.script_ops.specs.declared.op.Op.{Op}
use Rattle.script_ops.specs.Canonical.{AreAllShort, AreNamed}
use Rattle.script_ops.specs.Fits.{AreFit}
use Rattle.script_ops.specs.Weights.{weights_of}

-- a phase: the order in which its threads take their steps, and the ops of each thread
pub record PhaseValue : Type 0 where
  pub order : List ℕ
  pub threads : List (List Op)

-- a script; its ops name paths by the numbers of names in this list
pub record ScriptValue : Type 0 where
  pub machine : Parameters
  pub tasks : List ℕ
  pub names : List (List ℕ)
  pub phases : List PhaseValue

-- the threads of phases, one phase after the other
abbrev pub threads_in : List PhaseValue → List (List Op)
threads_in phases = flat_map (λ (p : PhaseValue). p.threads) phases

-- all threads, numbered through the whole script
abbrev pub threads_of : ScriptValue → List (List Op)
threads_of script = threads_in script.phases

-- the ops of a thread
abbrev pub ops_of : ScriptValue → ℕ → List Op
ops_of script thread = slice_index_or (threads_of script) thread []

-- an op by the number of its thread and its own
abbrev pub op_at : ScriptValue → ℕ → ℕ → Option Op
op_at script thread op = slice_get (ops_of script thread) op

-- a phase by its number
abbrev pub phase_at : ScriptValue → ℕ → PhaseValue
phase_at script phase = slice_index_or script.phases phase (record { order = []; threads = [] })

-- the number of the first thread of a phase
abbrev pub first_thread : ScriptValue → ℕ → ℕ
first_thread script phase = length (threads_in (take phase script.phases))

-- what the ops of all threads weigh together
abbrev pub total_weight : ScriptValue → ℕ
total_weight script = sum_by (weights_of script.machine) (threads_of script)

-- (For proofs.) no more phases, and no more threads in each, than a script may have
pub record AreFew (phases : List PhaseValue) : Type 0 where
  pub few_phases : length phases ≤ MOST_PHASES
  pub few_threads : All (λ p. length p.threads ≤ MOST_PHASE_THREADS) phases

-- (For proofs.) The rules of every script: the parameters of its machine are in range, its tasks rise and are few, its phases and
-- their threads are few, its ops have known names and short components and fit the machine and the tasks, and their weight is
-- within the limit.
pub record IsLawful (script : ScriptValue) : Type 0 where
  pub in_range : InRange script.machine
  pub rising : IsStrictlyIncreasing script.tasks
  pub few_tasks : length script.tasks ≤ MOST_TASKS
  pub few : AreFew script.phases
  pub named : All (AreNamed (length script.names)) (threads_of script)
  pub short : All (AreAllShort script.names) (threads_of script)
  pub fit : All (AreFit script.machine script.tasks) (threads_of script)
  pub light : total_weight script ≤ MOST_WEIGHT
