-- A command keeps the numbers of the tasks, and their order.
use Rattle.std.proofs.Common.{◌≡◌, ℕ, List, [], ◌∷◌, Option, None, Some, Result, Ok, Err, refl}
use Rattle.std.specs.Option.{option_map_or}
use Rattle.group_tree.specs.declared.group.Group.{Group}
use Rattle.lists.proofs.Choices.{cond-both}
use Rattle.machine.specs.declared.parameters.Parameters.{Parameters}
use Rattle.path_names.specs.declared.dirs.DirRef.TheVariants.{Ctrl, Mon}
use Rattle.path_names.specs.declared.files.FileKind.TheVariants as kinds
use Rattle.path_names.specs.declared.path_ref.PathRef.{PathRef}
use Rattle.path_names.specs.declared.path_ref.PathRef.TheVariants.{Dir, File}
use Rattle.rc_base.specs.Gids.{default_gid}
use Rattle.rc_base.specs.declared.names.Gid.{Gid}
use Rattle.rc_base.specs.declared.names.Mode.{Mode}
use Rattle.rc_base.specs.declared.names.Mode.TheVariants.{Shareable, Exclusive, LockSetup, Locked}
use Rattle.rc_base.specs.declared.replies.Reply.{Reply}
use Rattle.schemata_text.specs.declared.assignment.Assignment.{Assignment}
use Rattle.schemata_text.specs.declared.fault.TextFault.{TextFault}
use Rattle.script_ops.specs.declared.op.Op.{Op}
use Rattle.script_ops.specs.declared.op.Op.TheVariants as ops
use Rattle.task_binding.specs.Bindings as bindings
use Rattle.tree_law.specs.Existing.{directory_gid, owner_gid}
use Rattle.tree_law.specs.Places.{control_at, controlling, group_at, is_closed}
use Rattle.tree_law.specs.Refusals.{Refusal, reply_of}
use Rattle.tree_law.specs.State.{State, tasks_of}
use Rattle.tree_law.specs.Steps.{accepted, left, next, next_if, refusal, with_status}
use Rattle.tree_law.specs.commands.Cpus as cpus
use Rattle.tree_law.specs.commands.Mkdir as mkdir
use Rattle.tree_law.specs.commands.Mode as mode
use Rattle.tree_law.specs.commands.Rmdir as rmdir
use Rattle.tree_law.specs.commands.Schemata as schemata
use Rattle.tree_law.specs.commands.Tasks as tasks
use Rattle.tree_law.specs.commands.Threshold as threshold
use Rattle.tree_law.specs.commands.Tick as tick
use Rattle.tree_law.specs.commands.Write as write
use Rattle.tree_law.proofs.laws.TaskNumbers.{numbers_of-changed, numbers_of-moves}

module _ (s : State) where
  -- a later state has tasks of the same numbers
  abbrev Keeps : State → Type 0
  Keeps later = tasks_of later ≡ tasks_of s

  -- after a write of tasks
  tasks-keeps : (g : Group) (text : List ℕ) → Keeps (tasks.kept s g text)
  unfolding tasks.kept
  tasks-keeps g text = cond-both Keeps (is_closed s (controlling g.gid g.kind)) s (record s { tasks = (tasks.moves_in s g text).tasks }) refl (numbers_of-moves g.gid g.kind (tasks.elements text) s.tasks)

  -- of the group of a directory, where it is there
  option_map_or-keeps : (f : Group → State) (o : Option Group) → ((g : Group) → Keeps (f g)) → Keeps (option_map_or f o s)
  option_map_or-keeps f None each = refl
  option_map_or-keeps f (Some g) each = each g

  -- after a refused command
  left-keeps : (op : Op) → Keeps (left s op)
  unfolding write.refused
  left-keeps (ops.Write (File dir kinds.Tasks) text) = option_map_or-keeps (λ g. tasks.kept s g text) (group_at s dir) (λ g. tasks-keeps g text)
  left-keeps (ops.Write path text) = refl
  left-keeps op = refl

  -- ---- accepted commands

  -- after mkdir
  mkdir-keeps : (m : Parameters) (path : PathRef) → Keeps (mkdir.accepted m s path)
  unfolding mkdir.accepted
  mkdir-keeps m (Dir (Ctrl name)) = refl
  mkdir-keeps m (Dir (Mon owner name)) = at (owner_gid s owner)
    where
      at : (o : Option Gid) → Keeps (mkdir.with_monitor m s name o)
      at None = refl
      at (Some parent) = refl
  mkdir-keeps m path = refl

  -- after rmdir
  rmdir-keeps : (m : Parameters) (path : PathRef) (looks : List ℕ) → Keeps (rmdir.accepted m s path looks)
  unfolding rmdir.accepted
  rmdir-keeps m (Dir (Ctrl name)) looks = at (directory_gid s (Ctrl name))
    where
      at : (o : Option Gid) → Keeps (option_map_or (λ gid. rmdir.without_control m s gid (rmdir.freed s (Dir (Ctrl name))) looks) o s)
      at None = refl
      at (Some gid) = numbers_of-changed (bindings.has_control gid) (bindings.joined default_gid) (λ b. refl) s.tasks
  rmdir-keeps m (Dir (Mon owner name)) looks = at (directory_gid s (Mon owner name))
    where
      at : (o : Option Gid) → Keeps (option_map_or (λ gid. rmdir.without_monitor m s gid (rmdir.freed s (Dir (Mon owner name))) looks) o s)
      at None = refl
      at (Some gid) = numbers_of-changed (bindings.has_monitor gid) rmdir.uncounted (λ b. refl) s.tasks
  rmdir-keeps m path looks = refl

  -- after a write of schemata
  schemata-keeps : (g : Group) (read : Result (List Assignment) TextFault) → Keeps (schemata.accepted s g read)
  unfolding schemata.accepted
  schemata-keeps g (Err fault) = refl
  schemata-keeps g (Ok all) = at all g.mode
    where
      at : (all : List Assignment) (x : Mode) → Keeps (schemata.with_masks s g x all)
      at all Shareable = refl
      at all Exclusive = refl
      at [] LockSetup = refl
      at (a ∷ all) LockSetup = refl
      at all Locked = refl

  -- after a write of a mode
  mode-keeps : (m : Parameters) (g : Group) (text looks : List ℕ) → Keeps (mode.accepted m s g text looks)
  unfolding mode.accepted
  mode-keeps m g text looks = cond-both Keeps (mode.is_present g.mode text) s (mode.with_mode m s g (mode.freed g text) looks (mode.mode_in text)) refl (at (mode.mode_in text))
    where
      at : (o : Option Mode) → Keeps (mode.with_mode m s g (mode.freed g text) looks o)
      at None = refl
      at (Some x) = refl

  -- after a write of CPUs
  cpus-keeps : (g : Group) (read : Result (List ℕ) _) → Keeps (cpus.accepted s g read)
  unfolding cpus.accepted
  cpus-keeps g (Ok numbers) = refl
  cpus-keeps g (Err fault) = refl

  -- after a write of the threshold
  threshold-keeps : (m : Parameters) (text : List ℕ) → Keeps (threshold.accepted m s text)
  unfolding threshold.accepted
  threshold-keeps m text = at (threshold.threshold_in m text)
    where
      at : (o : Option ℕ) → Keeps (threshold.with_threshold s o)
      at None = refl
      at (Some n) = refl

  -- after each write
  write-keeps : (m : Parameters) (path : PathRef) (text looks : List ℕ) → Keeps (write.accepted m s path text looks)
  unfolding write.accepted
  write-keeps m (File dir kinds.Cpus) text looks = option_map_or-keeps (λ g. cpus.accepted s g (cpus.mask_read m text)) (group_at s dir) (λ g. cpus-keeps g (cpus.mask_read m text))
  write-keeps m (File dir kinds.CpusList) text looks = option_map_or-keeps (λ g. cpus.accepted s g (cpus.list_read m text)) (group_at s dir) (λ g. cpus-keeps g (cpus.list_read m text))
  write-keeps m (File dir kinds.Tasks) text looks = option_map_or-keeps (λ g. tasks.kept s g text) (group_at s dir) (λ g. tasks-keeps g text)
  write-keeps m (File dir kinds.Schemata) text looks = option_map_or-keeps (λ g. schemata.accepted s g (schemata.schemata_read m text)) (control_at s dir) (λ g. schemata-keeps g (schemata.schemata_read m text))
  write-keeps m (File dir kinds.Mode) text looks = option_map_or-keeps (λ g. mode.accepted m s g text looks) (control_at s dir) (λ g. mode-keeps m g text looks)
  write-keeps m (File dir kinds.MaxThreshold) text looks = threshold-keeps m text
  write-keeps m path text looks = refl

  -- after each accepted command
  accepted-keeps : (m : Parameters) (op : Op) (looks : List ℕ) → Keeps (accepted m s op looks)
  unfolding tick.accepted
  accepted-keeps m (ops.Mkdir path) looks = mkdir-keeps m path
  accepted-keeps m (ops.Rmdir path) looks = rmdir-keeps m path looks
  accepted-keeps m (ops.Write path text) looks = write-keeps m path text looks
  accepted-keeps m ops.Tick looks = refl
  accepted-keeps m op looks = refl

  -- the last status says nothing of the tasks
  with_status-keeps : (op : Op) (reply : Reply) (later : State) → Keeps later → Keeps (with_status op reply later)
  with_status-keeps (ops.Mkdir path) reply later same = same
  with_status-keeps (ops.Write path text) reply later same = same
  with_status-keeps op reply later same = same

-- a command keeps the numbers of the tasks
pub tasks_of-next : (m : Parameters) (s : State) (op : Op) (looks : List ℕ) → tasks_of (next m s op looks).state ≡ tasks_of s
unfolding next
tasks_of-next m s op looks = with_status-keeps s op (reply_of (refusal m s op)) (next_if m s op looks (refusal m s op)) (at (refusal m s op))
  where
    at : (o : Option Refusal) → tasks_of (next_if m s op looks o) ≡ tasks_of s
    at None = accepted-keeps s m op looks
    at (Some r) = left-keeps s op
