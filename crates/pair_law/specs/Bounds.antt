-- How many groups and serial numbers there are, and what a refused command leaves.
-- (For functions and proofs: no promise of the program stands on it.)
use Rattle.std.specs.Prelude.{◌≡◌, ℕ, ◌+◌, ◌≤◌, Bool, true, false, List, length, map, None, Some}
use Rattle.pair_law.specs.Others.{initial_mask}
use Rattle.pair_law.specs.Sound.{IsSound}
use Rattle.pair_law.specs.State.{PairState}
use Rattle.pair_law.specs.Steps.{left, next, refusal}
use Rattle.pair_text.specs.Values.{Machines, class_count}
use Rattle.pair_text.specs.declared.op.PairOp.{PairOp}
use Rattle.pair_text.specs.declared.op.PairOp.TheVariants as ops
use Rattle.pair_text.specs.declared.side.Side.TheVariants.{First, Second}
use Rattle.path_names.specs.declared.files.FileKind.{FileKind}
use Rattle.path_names.specs.declared.files.FileKind.TheVariants.{Tasks}
use Rattle.task_binding.specs.declared.binding.Binding.{Binding}
use Rattle.tree_law.specs.Refusals.{Refusal, reply_of}

-- there are no more groups than classes
abbrev pub GroupsAreFew : Type 0
GroupsAreFew = (m : Machines) (s : PairState) → IsSound m s → length s.groups ≤ class_count m

-- a command gives one serial number at most
abbrev pub SerialsAreFew : Type 0
SerialsAreFew = (m : Machines) (s : PairState) (op : PairOp) → (next m s op).state.next_gid ≤ s.next_gid + 1

-- the numbers of the tasks
abbrev pub tasks_of : PairState → List ℕ
tasks_of s = map (λ (b : Binding). b.task) s.tasks

-- a command keeps the numbers of the tasks
abbrev pub TasksAreKept : Type 0
TasksAreKept = (m : Machines) (s : PairState) (op : PairOp) → tasks_of (next m s op).state ≡ tasks_of s

-- a refused command is answered with its reason, and leaves what `left` says
abbrev pub RefusedIsLeft : Type 0
RefusedIsLeft = (m : Machines) (s : PairState) (op : PairOp) (r : Refusal) → refusal m s op ≡ Some r → ((next m s op).reply ≡ reply_of (Some r)) × ((next m s op).state ≡ left s op)

abbrev pub is_tasks : FileKind → Bool
is_tasks Tasks = true
is_tasks kind = false

-- a write to a `tasks` file
abbrev pub writes_tasks : PairOp → Bool
writes_tasks (ops.Write file text) = is_tasks file.kind
writes_tasks op = false

-- any other refused command leaves the state as it was
abbrev pub LeftIsSame : Type 0
LeftIsSame = (s : PairState) (op : PairOp) → writes_tasks op ≡ false → left s op ≡ s

-- without an L2 a new group has the same mask on both sides
abbrev pub MasksAreOne : Type 0
MasksAreOne = (m : Machines) (s : PairState) (domain : ℕ) → m.l2 ≡ None → initial_mask m s (record { side = First; domain = domain }) ≡ initial_mask m s (record { side = Second; domain = domain })
