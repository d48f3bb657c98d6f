-- Laws of the states that commands lead to.
-- (For functions and proofs: no promise of the program stands on it.)
use Rattle.std.specs.Prelude.{◌≡◌, ℕ, ◌≤◌, Bool, true, false, List, length, Some}
use Rattle.std.specs.List.Sorted.{IsStrictlyIncreasing}
use Rattle.machine.specs.Maps.{cache_bytes}
use Rattle.machine.specs.Ranges.{InRange}
use Rattle.machine.specs.declared.parameters.Parameters.{Parameters}
use Rattle.path_names.specs.declared.files.FileKind.TheVariants.{Tasks}
use Rattle.path_names.specs.declared.path_ref.PathRef.TheVariants.{File}
use Rattle.rc_base.specs.declared.replies.Reply.{Reply}
use Rattle.script_ops.specs.Fits.{Fits}
use Rattle.script_ops.specs.declared.op.Op.{Op}
use Rattle.script_ops.specs.declared.op.Op.TheVariants as ops
use Rattle.tree_law.specs.Refusals.{Refusal, reply_of}
use Rattle.tree_law.specs.Sound.{IsSound}
use Rattle.tree_law.specs.State.{State, opening, tasks_of}
use Rattle.tree_law.specs.Steps.{left, needs, next, refusal, with_status}

-- the opening tree is sound, where the declared tasks rise
abbrev pub OpeningIsSound : Type 0
OpeningIsSound = (m : Parameters) (tasks : List ℕ) → InRange m → IsStrictlyIncreasing tasks → IsSound m (opening m tasks)

-- each command that fits, with as many counts as it needs, leaves a sound tree
abbrev pub NextIsSound : Type 0
NextIsSound = (m : Parameters) (s : State) (op : Op) (looks : List ℕ) → InRange m → IsSound m s → Fits m (tasks_of s) op → length looks ≡ length (needs m s op) → IsSound m (next m s op looks).state

-- in a sound tree the threshold is at most the bytes of one cache
abbrev pub ThresholdIsBounded : Type 0
ThresholdIsBounded = (m : Parameters) (s : State) → IsSound m s → s.threshold ≤ cache_bytes m

-- a command keeps the numbers of the tasks
abbrev pub TasksAreKept : Type 0
TasksAreKept = (m : Parameters) (s : State) (op : Op) (looks : List ℕ) → tasks_of (next m s op looks).state ≡ tasks_of s

-- ---- refused commands

-- a refused command is answered with its reason, and leaves what `left` says, with the reply as the last status if it sets one
abbrev pub RefusedIsLeft : Type 0
RefusedIsLeft = (m : Parameters) (s : State) (op : Op) (looks : List ℕ) (r : Refusal) → refusal m s op ≡ Some r
    → ((next m s op looks).reply ≡ reply_of (Some r)) × ((next m s op looks).state ≡ with_status op (reply_of (Some r)) (left s op))

-- a write to a `tasks` file
abbrev pub writes_tasks : Op → Bool
writes_tasks (ops.Write (File dir Tasks) text) = true
writes_tasks op = false

-- any other refused command leaves the state as it was
abbrev pub LeftIsSame : Type 0
LeftIsSame = (s : State) (op : Op) → writes_tasks op ≡ false → left s op ≡ s

-- and a refused write to a `tasks` file changes the tasks alone
abbrev pub LeftHasTasks : Type 0
LeftHasTasks = (s : State) (op : Op) → left s op ≡ record s { tasks = (left s op).tasks }

-- mkdir and write set the last status
abbrev pub sets_status : Op → Bool
sets_status (ops.Mkdir path) = true
sets_status (ops.Write path text) = true
sets_status op = false

-- no other command does
abbrev pub StatusIsKept : Type 0
StatusIsKept = (m : Parameters) (s : State) (op : Op) (looks : List ℕ) → sets_status op ≡ false → (next m s op looks).state.status ≡ s.status

-- setting it changes nothing else
abbrev pub StatusIsAlone : Type 0
StatusIsAlone = (s : State) (op : Op) (reply : Reply) → with_status op reply s ≡ record s { status = (with_status op reply s).status }
