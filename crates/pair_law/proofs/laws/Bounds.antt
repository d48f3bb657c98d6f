-- How many groups and serial numbers there are, and what a refused command leaves.
use Rattle.std.proofs.Common.{◌≡◌, ◌≢◌, ℕ, ◌+◌, ◌<◌, ◌≤◌, Bool, true, false, cond, List, length, map, Option, None, Some, Result, Ok, Err, refl, ap, arith}
use Rattle.std.specs.Option.{option_map_or}
use Rattle.std.proofs.lemmas.Bool.{true≢false}
use Rattle.std.proofs.lemmas.List.{length-map}
use Rattle.std.proofs.lemmas.List.Elements.{All-map}
use Rattle.group_tree.specs.declared.group_kind.GroupKind.TheVariants.{Control}
use Rattle.lists.proofs.Pairs.{AllPairs-map, length-distinct}
use Rattle.machine.specs.declared.parameters.Parameters.{Parameters}
use Rattle.pair_law.specs.Bounds.{GroupsAreFew, LeftIsSame, MasksAreOne, RefusedIsLeft, SerialsAreFew, TasksAreKept, is_tasks, tasks_of}
use Rattle.pair_law.specs.Others.{initial_mask}
use Rattle.pair_law.specs.Reading.{SideMask}
use Rattle.pair_law.specs.State.{PairGroup, PairState, group_named}
use Rattle.pair_law.specs.Steps.{accepted, after_write, kept_tasks, left, next, next_if, refusal, written}
use Rattle.pair_law.specs.commands.Mkdir as mkdir
use Rattle.pair_law.specs.commands.Mode as mode
use Rattle.pair_law.specs.commands.Rmdir as rmdir
use Rattle.pair_law.specs.commands.Schemata as schemata
use Rattle.pair_law.specs.commands.Tasks as tasks
use Rattle.pair_text.specs.Values.{Machines, class_count}
use Rattle.pair_text.specs.declared.op.PairOp.{PairOp}
use Rattle.pair_text.specs.declared.op.PairOp.TheVariants as ops
use Rattle.pair_text.specs.declared.side.Side.TheVariants.{First, Second}
use Rattle.path_names.specs.declared.files.FileKind.{FileKind}
use Rattle.path_names.specs.declared.files.FileKind.TheVariants.{Tasks, Schemata, Mode}
use Rattle.rc_base.specs.declared.names.Mode.{Mode as AMode}
use Rattle.schemata_text.specs.declared.fault.TextFault.{TextFault}
use Rattle.tree_law.proofs.laws.TaskNumbers.{numbers_of-changed, numbers_of-moves}
use Rattle.tree_law.specs.Refusals.{Refusal, reply_of}
use Rattle.tree_law.specs.commands.Mode.{is_present}
use Rattle.tree_law.specs.commands.Tasks.{elements}

-- no more groups than classes
pub length-groups : GroupsAreFew
length-groups m s sound =
    let ids : List ℕ = map (λ (g : PairGroup). g.class) s.groups in
    let most : length ids ≤ class_count m = length-distinct (class_count m) ids (AllPairs-map (λ (a b : ℕ). a ≢ b) (λ (g : PairGroup). g.class) s.groups sound.classes.apart) (All-map (λ id. id < class_count m) (λ (g : PairGroup). g.class) s.groups sound.classes.exist) in
    omega (arith, most, length-map s.groups (λ (g : PairGroup). g.class))

-- ---- what a command keeps, but for mkdir: the serial number; and always: the tasks' numbers

-- the same next serial number and tasks
record IsKept (s later : PairState) : Type 0 where
  pub serial : later.next_gid ≤ s.next_gid + 1
  pub tasks : tasks_of later ≡ tasks_of s

IsKept-same : (s : PairState) → IsKept s s
IsKept-same s = record { serial = omega arith; tasks = refl }

tasks-kept : (s : PairState) (g : PairGroup) (text : List ℕ) → IsKept s (tasks.kept s g text)
unfolding tasks.kept
tasks-kept s g text = record { serial = omega arith; tasks = numbers_of-moves g.gid Control (elements text) s.tasks }

schemata-kept : (s : PairState) (g : PairGroup) (read : Result (List SideMask) TextFault) → IsKept s (schemata.accepted s g read)
unfolding schemata.accepted
schemata-kept s g (Err fault) = IsKept-same s
schemata-kept s g (Ok all) = record { serial = omega arith; tasks = refl }

mode-kept : (s : PairState) (g : PairGroup) (text : List ℕ) → IsKept s (mode.accepted s g text)
unfolding mode.accepted
mode-kept s g text = at (is_present g.mode text) (mode.mode_in text)
  where
    at : (b : Bool) (o : Option AMode) → IsKept s (cond b s (mode.with_mode s g o))
    at true o = IsKept-same s
    at false None = IsKept-same s
    at false (Some new) = record { serial = omega arith; tasks = refl }

rmdir-kept : (s : PairState) (name : List ℕ) → IsKept s (rmdir.accepted s name)
unfolding rmdir.accepted
rmdir-kept s name = at (group_named s (Some name))
  where
    at : (o : Option PairGroup) → IsKept s (option_map_or (λ (g : PairGroup). rmdir.without_group s g.gid) o s)
    at None = IsKept-same s
    at (Some g) = record { serial = omega arith; tasks = numbers_of-changed _ _ (λ b. refl) s.tasks }

mkdir-kept : (m : Machines) (s : PairState) (name : List ℕ) → IsKept s (mkdir.accepted m s name)
unfolding mkdir.accepted
mkdir-kept m s name = record { serial = omega arith; tasks = refl }

written-kept : (m : Machines) (s : PairState) (g : PairGroup) (kind : FileKind) (text : List ℕ) → IsKept s (written m s g kind text)
written-kept m s g Schemata text = schemata-kept s g (schemata.schemata_read m text)
written-kept m s g Mode text = mode-kept s g text
written-kept m s g Tasks text = tasks-kept s g text
written-kept m s g kind text = IsKept-same s

after_write-kept : (m : Machines) (s : PairState) (o : Option PairGroup) (kind : FileKind) (text : List ℕ) → IsKept s (after_write m s o kind text)
after_write-kept m s None kind text = IsKept-same s
after_write-kept m s (Some g) kind text = written-kept m s g kind text

accepted-kept : (m : Machines) (s : PairState) (op : PairOp) → IsKept s (accepted m s op)
accepted-kept m s (ops.Mkdir name) = mkdir-kept m s name
accepted-kept m s (ops.Rmdir name) = rmdir-kept s name
accepted-kept m s (ops.Write file text) = after_write-kept m s (group_named s file.group) file.kind text
accepted-kept m s op = IsKept-same s

kept_tasks-kept : (s : PairState) (o : Option PairGroup) (kind : FileKind) (text : List ℕ) → IsKept s (kept_tasks s o kind text)
kept_tasks-kept s None kind text = IsKept-same s
kept_tasks-kept s (Some g) Tasks text = tasks-kept s g text
kept_tasks-kept s (Some g) kind text = IsKept-same s

left-kept : (s : PairState) (op : PairOp) → IsKept s (left s op)
left-kept s (ops.Write file text) = kept_tasks-kept s (group_named s file.group) file.kind text
left-kept s op = IsKept-same s

next-kept : (m : Machines) (s : PairState) (op : PairOp) → IsKept s (next m s op).state
unfolding next
next-kept m s op = at (refusal m s op)
  where
    at : (o : Option Refusal) → IsKept s (next_if m s op o)
    at None = accepted-kept m s op
    at (Some r) = left-kept s op

pub next_gid-next : SerialsAreFew
next_gid-next m s op = (next-kept m s op).serial

pub tasks_of-next : TasksAreKept
tasks_of-next m s op = (next-kept m s op).tasks

-- ---- refused commands

pub next-refused : RefusedIsLeft
unfolding next
next-refused m s op r is = (ap reply_of is, ap (next_if m s op) is)

kept_tasks-same : (s : PairState) (o : Option PairGroup) (kind : FileKind) (text : List ℕ) → is_tasks kind ≡ false → kept_tasks s o kind text ≡ s
kept_tasks-same s None kind text other = refl
kept_tasks-same s (Some g) Tasks text other = absurd (true≢false other)
kept_tasks-same s (Some g) kind text other = refl

pub left-same : LeftIsSame
left-same s (ops.Write file text) other = kept_tasks-same s (group_named s file.group) file.kind text other
left-same s op other = refl

-- ---- a new group's masks

masks-one : (machine : Parameters) (l2 : Option Parameters) (s : PairState) (domain : ℕ) → l2 ≡ None → initial_mask (record { machine = machine; l2 = l2 }) s (record { side = First; domain = domain }) ≡ initial_mask (record { machine = machine; l2 = l2 }) s (record { side = Second; domain = domain })
masks-one machine None s domain none = refl
masks-one machine (Some l2) s domain none = absurd (let f : Some l2 ≡ None = none in cc)

pub initial_mask-one : MasksAreOne
initial_mask-one m s domain none = masks-one m.machine m.l2 s domain none
