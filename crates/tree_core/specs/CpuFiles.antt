-- The files that name CPUs, and what they say.
-- (For functions and proofs: no promise of the program stands on it.)
use Rattle.std.specs.Prelude.{◌≡◌, ℕ, Bool, true, false, if◌then◌else◌, is_some, List, Option, None, Result, Ok, Err}
use Rattle.cpu_lists.specs.declared.fault.CpuFault.{CpuFault}
use Rattle.group_tree.specs.declared.group.Group.{Group}
use Rattle.machine.specs.declared.parameters.Parameters.{Parameters}
use Rattle.path_names.specs.declared.files.FileKind.{FileKind}
use Rattle.path_names.specs.declared.files.FileKind.TheVariants.{Cpus, CpusList}
use Rattle.tree_law.specs.Refusals.{Refusal}
use Rattle.tree_law.specs.Sound.{IsSound}
use Rattle.tree_law.specs.State.{State}
use Rattle.tree_law.specs.commands.Cpus as cpus

-- whether a file names CPUs
abbrev pub is_cpus : FileKind → Bool
is_cpus Cpus = true
is_cpus CpusList = true
is_cpus kind = false

-- the CPUs that the text of such a file names
abbrev pub named_by : Parameters → FileKind → List ℕ → Result (List ℕ) CpuFault
named_by m CpusList text = cpus.list_read m text
named_by m kind text = cpus.mask_read m text

-- the CPUs that a text names, as a set
abbrev pub set_read : Result (List ℕ) CpuFault → Result ℕ CpuFault
set_read (Ok numbers) = Ok (cpus.set_of numbers)
set_read (Err fault) = Err fault

-- one thing where something is against a command, and another where nothing is
abbrev pub unless : {X : Type 0} → Option Refusal → X → X → X
unless against refused accepted = if is_some against then refused else accepted

-- the CPUs that a text names leave a sound tree, where nothing is against them
abbrev pub StaysSound : Parameters → State → Group → Result (List ℕ) CpuFault → Type 0
StaysSound m s g named = cpus.refusal s g named ≡ None → IsSound m (cpus.accepted s g named)
