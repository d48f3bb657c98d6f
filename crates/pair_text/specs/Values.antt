-- What a pair script says: its machines, its tasks, and its ops.
use Rattle.std.specs.Prelude.{◌≡◌, ℕ, ◌<◌, ◌≤◌, ◌%◌, ◌/◌, Bool, true, false, IfSome, List, All, Contains, Option, None, Some, unwrap_or, filter, length, take, slice_get}
use Rattle.std.specs.List.Sorted.{IsStrictlyIncreasing}
use Rattle.machine.specs.Ranges.{InRange}
use Rattle.machine.specs.declared.parameters.Parameters.{Parameters}
use Rattle.pair_text.specs.declared.op.PairOp.{PairOp}
use Rattle.pair_text.specs.declared.op.PairOp.TheVariants as ops
use Rattle.pair_text.specs.declared.side.Side.{Side}
use Rattle.pair_text.specs.declared.side.Side.TheVariants.{First, Second}
use Rattle.path_names.specs.declared.components.TheConstants.{MOST_NAME_BYTES}
use Rattle.script_ops.specs.declared.limits.TheConstants.{MOST_TASKS}

-- The caches: those of the machine, and the L2's where the script has two levels. Without an L2 the sides are code and data of
-- the same caches.
pub record Machines : Type 0 where
  pub machine : Parameters
  pub l2 : Option Parameters

-- the caches of a side
abbrev pub side_machine : Machines → Side → Parameters
side_machine m First = unwrap_or m.l2 m.machine
side_machine m Second = m.machine

-- how many classes there are; with code and data prioritization each takes two of the machine's (Intel SDM volume 3)
abbrev pub classes_of : ℕ → Option Parameters → ℕ
classes_of classes None = classes / 2
classes_of classes (Some l2) = classes

abbrev pub class_count : Machines → ℕ
class_count m = classes_of m.machine.classes m.l2

-- a pair script
pub record PairScriptValue : Type 0 where
  pub machines : Machines
  pub tasks : List ℕ
  pub ops : List PairOp

-- all ops but a use are commands
abbrev pub is_command : PairOp → Bool
is_command (ops.Mkdir name) = true
is_command (ops.Rmdir name) = true
is_command (ops.Write file text) = true
is_command (ops.Read file) = true
is_command ops.Flush = true
is_command (ops.Use task cpu line code) = false

-- the commands of a script, in order
abbrev pub commands_of : PairScriptValue → List PairOp
commands_of script = filter is_command script.ops

-- how many commands stand before an op
abbrev pub epoch_at : PairScriptValue → ℕ → ℕ
epoch_at script i = length (filter is_command (take i script.ops))

-- an op by its place
abbrev pub op_at : PairScriptValue → ℕ → Option PairOp
op_at script i = slice_get script.ops i

-- ---- lawful scripts

-- (For proofs.) an L2 beside an L3: as many CPUs, each L3 domain over as many L2 domains as the others
pub record LiesBelow (m : Parameters) (l2 : Parameters) : Type 0 where
  pub in_range : InRange l2
  pub same_cpus : l2.cpus ≡ m.cpus
  pub whole : l2.domains % m.domains ≡ 0
  pub one_slice : l2.slices ≡ 1

-- (For proofs.) machines in range, in one slice a domain
pub record AreMachines (m : Machines) : Type 0 where
  pub in_range : InRange m.machine
  pub one_slice : m.machine.slices ≡ 1
  pub some_class : 0 < class_count m
  pub below : IfSome m.l2 (LiesBelow m.machine)

-- (For proofs.) the name of a new group is no longer than that of a component of a path
abbrev pub HasShortName : PairOp → Type 0
HasShortName (ops.Mkdir name) = length name ≤ MOST_NAME_BYTES
HasShortName op = Unit {0}

-- (For proofs.) an op of a script: the task of a use is declared and its CPU exists, and a new group's name is short
abbrev pub Fits : PairScriptValue → PairOp → Type 0
Fits script (ops.Use task cpu line code) = Contains script.tasks task × (cpu < script.machines.machine.cpus)
Fits script op = HasShortName op

-- (For proofs.) What each pair script keeps to.
pub record IsLawful (script : PairScriptValue) : Type 0 where
  pub machines : AreMachines script.machines
  pub rising : IsStrictlyIncreasing script.tasks
  pub few_tasks : length script.tasks ≤ MOST_TASKS
  pub fit : All (Fits script) script.ops
