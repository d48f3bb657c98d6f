-- A command that does not ask that a group be exclusive leaves none exclusive where none was.
use Rattle.std.proofs.Common.{◌≡◌, ℕ, Bool, true, false, cond, List, Option, Some, None, refl}
use Rattle.std.specs.Prelude.{option_and_then}
use Rattle.std.specs.Option.{option_map_or}
use Rattle.group_tree.specs.Records.{has_gid, is_control}
use Rattle.group_tree.specs.declared.group.Group.{Group}
use Rattle.lists.proofs.Tests.{IsFound-all, find-found}
use Rattle.machine.specs.declared.parameters.Parameters.{Parameters}
use Rattle.path_names.specs.declared.files.FileKind.TheVariants as kinds
use Rattle.path_names.specs.declared.path_ref.PathRef.{PathRef}
use Rattle.path_names.specs.declared.path_ref.PathRef.TheVariants.{File}
use Rattle.rc_base.specs.declared.names.Gid.{Gid}
use Rattle.rc_base.specs.declared.replies.Reply.{Reply}
use Rattle.run_windows.specs.Quiet.{asks_exclusive, is_exclusive_text}
use Rattle.run_windows.proofs.SharedCommands.{IsShared, AreShared, AreShared-mkdir, AreShared-rmdir, AreShared-schemata, AreShared-mode, AreShared-tasks, AreShared-cpus, AreShared-cpus_list}
use Rattle.script_ops.specs.declared.op.Op.{Op}
use Rattle.script_ops.specs.declared.op.Op.TheVariants as ops
use Rattle.tree_law.specs.Existing.{directory_gid, group_of}
use Rattle.tree_law.specs.Places.{group_at, only_control}
use Rattle.tree_law.specs.Refusals.{Refusal, reply_of}
use Rattle.tree_law.specs.State.{State}
use Rattle.tree_law.specs.Steps.{accepted, left, next, next_if, refusal, with_status}
use Rattle.tree_law.specs.commands.Cpus as cpus
use Rattle.tree_law.specs.commands.Mode as mode
use Rattle.tree_law.specs.commands.Schemata as schemata
use Rattle.tree_law.specs.commands.Tasks as tasks
use Rattle.tree_law.specs.commands.Threshold as threshold
use Rattle.tree_law.specs.commands.Tick as tick
use Rattle.tree_law.specs.commands.Write as write

module _ (m : Parameters) (s : State) (shared : AreShared s) where
  AreShared-threshold : (text : List ℕ) → AreShared (threshold.accepted m s text)
  unfolding threshold.accepted
  AreShared-threshold text = at (threshold.threshold_in m text)
    where
      at : (o : Option ℕ) → AreShared (threshold.with_threshold s o)
      at None = shared
      at (Some n) = shared

  -- what is done for the group of a directory, where it exists
  AreShared-group : (o : Option Group) (f : Group → State) → ((g : Group) → AreShared (f g)) → AreShared (option_map_or f o s)
  AreShared-group None f each = shared
  AreShared-group (Some g) f each = each g

  -- and for the control group of one
  AreShared-control : (o : Option Gid) (f : Group → State) → ((g : Group) → IsShared g → AreShared (f g)) → AreShared (option_map_or f (option_and_then only_control (option_and_then (group_of s) o)) s)
  AreShared-control None f each = shared
  AreShared-control (Some gid) f each = at (group_of s gid) refl
    where
      its : (g : Group) → IsShared g → (b : Bool) → AreShared (option_map_or f (cond b (Some g) None) s)
      its g this true = each g this
      its g this false = shared

      at : (o : Option Group) → group_of s gid ≡ o → AreShared (option_map_or f (option_and_then only_control o) s)
      at None none = shared
      at (Some g) found = its g (IsFound-all IsShared (has_gid gid) s.groups g (find-found (has_gid gid) s.groups g found) shared) (is_control g.kind)

  AreShared-write : (path : PathRef) (text looks : List ℕ) → is_exclusive_text path text ≡ false → AreShared (write.accepted m s path text looks)
  unfolding write.accepted
  AreShared-write (File dir kinds.Cpus) text looks quiet = AreShared-group (group_at s dir) (λ g. cpus.accepted s g (cpus.mask_read m text)) (λ g. (AreShared-cpus m s shared) g text)
  AreShared-write (File dir kinds.CpusList) text looks quiet = AreShared-group (group_at s dir) (λ g. cpus.accepted s g (cpus.list_read m text)) (λ g. (AreShared-cpus_list m s shared) g text)
  AreShared-write (File dir kinds.Tasks) text looks quiet = AreShared-group (group_at s dir) (λ g. tasks.kept s g text) (λ g. (AreShared-tasks m s shared) g text)
  AreShared-write (File dir kinds.Schemata) text looks quiet =
      AreShared-control (directory_gid s dir) (λ g. schemata.accepted s g (schemata.schemata_read m text)) (λ g this. (AreShared-schemata m s shared) g this (schemata.schemata_read m text))
  AreShared-write (File dir kinds.Mode) text looks quiet = AreShared-control (directory_gid s dir) (λ g. mode.accepted m s g text looks) (λ g this. (AreShared-mode m s shared) g text looks quiet)
  AreShared-write (File dir kinds.MaxThreshold) text looks quiet = AreShared-threshold text
  AreShared-write path text looks quiet = shared

  AreShared-accepted : (op : Op) (looks : List ℕ) → asks_exclusive op ≡ false → AreShared (accepted m s op looks)
  unfolding tick.accepted
  AreShared-accepted (ops.Mkdir path) looks quiet = AreShared-mkdir m s shared path
  AreShared-accepted (ops.Rmdir path) looks quiet = AreShared-rmdir m s shared path looks
  AreShared-accepted (ops.Write path text) looks quiet = AreShared-write path text looks quiet
  AreShared-accepted op looks quiet = shared

  AreShared-left : (op : Op) → AreShared (left s op)
  unfolding write.refused
  AreShared-left (ops.Write (File dir kinds.Tasks) text) = AreShared-group (group_at s dir) (λ g. tasks.kept s g text) (λ g. (AreShared-tasks m s shared) g text)
  AreShared-left (ops.Write path text) = shared
  AreShared-left op = shared

-- with another last status
AreShared-with_status : (s : State) (op : Op) (reply : Reply) → AreShared s → AreShared (with_status op reply s)
AreShared-with_status s (ops.Mkdir path) reply shared = shared
AreShared-with_status s (ops.Write path text) reply shared = shared
AreShared-with_status s op reply shared = shared

pub AreShared-next : (m : Parameters) (s : State) (op : Op) (looks : List ℕ) → AreShared s → asks_exclusive op ≡ false → AreShared (next m s op looks).state
unfolding next
AreShared-next m s op looks shared quiet = AreShared-with_status (next_if m s op looks (refusal m s op)) op (reply_of (refusal m s op)) (at (refusal m s op))
  where
    at : (against : Option Refusal) → AreShared (next_if m s op looks against)
    at None = AreShared-accepted m s shared op looks quiet
    at (Some r) = AreShared-left m s shared op
