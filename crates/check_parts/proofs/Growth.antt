-- How far a command can raise the number of the next group, the number of locks, and the number of groups that wait for one.
use Rattle.std.proofs.Common.{◌≡◌, ℕ, ◌+◌, ◌*◌, ◌≤◌, Bool, true, false, cond, not, List, [], ◌∷◌, find, Option, Some, None, Result, Ok, Err, refl, subst, ap, ◌∙◌, arith}
use Rattle.std.specs.Prelude.{◌==◌}
use Rattle.std.specs.Option.{option_map_or}
use Rattle.std.proofs.lemmas.Bool.{eqb-true}
use Rattle.std.proofs.lemmas.Option.{same_Some}
use Rattle.cpu_lists.specs.declared.fault.CpuFault.{CpuFault}
use Rattle.group_tree.specs.Lists.{GidsDiffer}
use Rattle.group_tree.specs.Records.{has_gid, is_control}
use Rattle.group_tree.specs.declared.group.Group.{Group}
use Rattle.lists.proofs.Choices.{cond-both}
use Rattle.lists.proofs.Options.{option_and_then-some}
use Rattle.lists.proofs.Tests.{find-found}
use Rattle.lists.specs.Sums.{one_if}
use Rattle.machine.specs.declared.parameters.Parameters.{Parameters}
use Rattle.path_names.specs.declared.dirs.DirRef.{DirRef}
use Rattle.path_names.specs.declared.dirs.DirRef.TheVariants.{Ctrl, Mon}
use Rattle.path_names.specs.declared.files.FileKind.TheVariants as kinds
use Rattle.path_names.specs.declared.path_ref.PathRef.{PathRef}
use Rattle.path_names.specs.declared.path_ref.PathRef.TheVariants.{Dir, File}
use Rattle.rc_base.specs.declared.names.Gid.{Gid}
use Rattle.rc_base.specs.declared.names.Mode.{Mode}
use Rattle.rc_base.specs.declared.names.Mode.TheVariants.{Shareable, Exclusive, LockSetup, Locked}
use Rattle.rc_base.specs.declared.replies.Reply.{Reply}
use Rattle.schemata_text.specs.declared.assignment.Assignment.{Assignment}
use Rattle.schemata_text.specs.declared.fault.TextFault.{TextFault}
use Rattle.script_ops.specs.declared.op.Op.{Op}
use Rattle.script_ops.specs.declared.op.Op.TheVariants as ops
use Rattle.tree_law.specs.Existing.{directory_gid, group_of, owner_gid}
use Rattle.tree_law.specs.Places.{control_at, controlling, group_at, is_closed, only_control, with_record}
use Rattle.tree_law.specs.Refusals.{Refusal, reply_of}
use Rattle.tree_law.specs.State.{State}
use Rattle.tree_law.specs.Steps.{accepted, left, next, next_if, refusal, with_status}
use Rattle.tree_law.specs.commands.Cpus as cpus
use Rattle.tree_law.specs.commands.Mkdir as mkdir
use Rattle.tree_law.specs.commands.Mode as mode
use Rattle.tree_law.specs.commands.Rmdir as rmdir
use Rattle.tree_law.specs.commands.Schemata as schemata
use Rattle.tree_law.specs.commands.Tasks as tasks
use Rattle.tree_law.specs.commands.Threshold as threshold
use Rattle.tree_law.specs.commands.Tick as tick
use Rattle.tree_law.specs.commands.Write as write
use Rattle.check_parts.proofs.Waiting.{waiting, waiting-fewer, waiting-filter, waiting-left, waiting-more, waiting-push}

-- whether a command writes a `schemata` or a `mode` file: each lock takes one of each
abbrev pub prepares : Op → Bool
prepares (ops.Write (File dir kinds.Schemata) text) = true
prepares (ops.Write (File dir kinds.Mode) text) = true
prepares op = false

-- A lock counts twice, and a group that waits for one once. So many more there are at most, and one group more has been made.
pub record Grows (more : ℕ) (s later : State) : Type 0 where
  pub serial : later.next_gid ≤ s.next_gid + 1
  pub locks : 2 * later.locks + waiting later.groups ≤ 2 * s.locks + waiting s.groups + more

Grows-same : (more : ℕ) (s : State) → Grows more s s
Grows-same more s = record { serial = omega arith; locks = omega arith }

-- the record of a control group is the one of its gid
find-control_at : (s : State) (dir : DirRef) (g : Group) → control_at s dir ≡ Some g → find (has_gid g.gid) s.groups ≡ Some g
find-control_at s dir g is =
    let x = option_and_then-some only_control (group_at s dir) g is in
    let same : x.0 ≡ g = only (is_control x.0.kind) x.0 x.2 in
    let y = option_and_then-some (group_of s) (directory_gid s dir) x.0 x.1 in
    let found : find (has_gid y.0) s.groups ≡ Some g = y.2 ∙ ap (λ (h : Group). Some h) same in
    let passes = (find-found (has_gid y.0) s.groups g found).passes in
    subst (λ (n : ℕ). find (λ (h : Group). n == h.gid.0) s.groups ≡ Some g) (eqb-true y.0.0 g.gid.0 passes) found
  where
    only : (b : Bool) (x : Group) → cond b (Some x) None ≡ Some g → x ≡ g
    only true x e = same_Some x g e
    only false x e = absurd (let f : ◌≡◌ {A = Option Group} None (Some g) = e in cc)

module _ (m : Parameters) (s : State) (differ : GidsDiffer s.groups) where
  Grows-mkdir : (path : PathRef) → Grows 0 s (mkdir.accepted m s path)
  unfolding mkdir.accepted
  Grows-mkdir (Dir (Ctrl name)) = record { serial = omega arith; locks = omega (arith, waiting-push s.groups (mkdir.new_control m s name)) }
  Grows-mkdir (Dir (Mon owner name)) = at (owner_gid s owner)
    where
      at : (o : Option Gid) → Grows 0 s (mkdir.with_monitor m s name o)
      at None = Grows-same 0 s
      at (Some parent) = record { serial = omega arith; locks = omega (arith, waiting-push s.groups (mkdir.new_monitor m s name parent)) }
  Grows-mkdir path = Grows-same 0 s

  Grows-rmdir : (path : PathRef) (looks : List ℕ) → Grows 0 s (rmdir.accepted m s path looks)
  unfolding rmdir.accepted
  Grows-rmdir (Dir (Ctrl name)) looks = at (directory_gid s (Ctrl name))
    where
      at : (o : Option Gid) → Grows 0 s (option_map_or (λ gid. rmdir.without_control m s gid (rmdir.freed s (Dir (Ctrl name))) looks) o s)
      at None = Grows-same 0 s
      at (Some gid) = record { serial = omega arith; locks = omega (arith, waiting-filter (λ g. not (rmdir.goes_with gid g)) s.groups) }
  Grows-rmdir (Dir (Mon owner name)) looks = at (directory_gid s (Mon owner name))
    where
      at : (o : Option Gid) → Grows 0 s (option_map_or (λ gid. rmdir.without_monitor m s gid (rmdir.freed s (Dir (Mon owner name))) looks) o s)
      at None = Grows-same 0 s
      at (Some gid) = record { serial = omega arith; locks = omega (arith, waiting-filter (λ (g : Group). not (has_gid gid g)) s.groups) }
  Grows-rmdir path looks = Grows-same 0 s

  Grows-schemata : (g : Group) (read : Result (List Assignment) TextFault) → find (has_gid g.gid) s.groups ≡ Some g → Grows 1 s (schemata.accepted s g read)
  unfolding schemata.accepted
  Grows-schemata g (Err fault) found = Grows-same 1 s
  Grows-schemata g (Ok all) found = by_mode g.mode all refl
    where
      counted : (all : List Assignment) → mode.is_setup g.mode ≡ false → Grows 1 s (with_record s (record g { masks = schemata.assigned g.masks all }))
      counted all out = record { serial = omega arith; locks = omega (arith, waiting-left (record g { masks = schemata.assigned g.masks all }) s.groups out) }

      first : (all : List Assignment) → mode.is_setup g.mode ≡ true → Grows 1 s (schemata.with_first s g all)
      first [] is = Grows-same 1 s
      first (a ∷ more) is = record { serial = omega arith; locks = omega (arith, waiting-fewer (schemata.locked g a) g s.groups refl is found) }

      by_mode : (way : Mode) (all : List Assignment) → g.mode ≡ way → Grows 1 s (schemata.with_masks s g way all)
      by_mode Shareable all is = counted all (ap mode.is_setup is)
      by_mode Exclusive all is = counted all (ap mode.is_setup is)
      by_mode LockSetup all is = first all (ap mode.is_setup is)
      by_mode Locked all is = Grows-same 1 s

  Grows-mode : (g : Group) (text looks : List ℕ) → Grows 1 s (mode.accepted m s g text looks)
  unfolding mode.accepted
  Grows-mode g text looks = cond-both (Grows 1 s) (mode.is_present g.mode text) s (mode.with_mode m s g (mode.freed g text) looks (mode.mode_in text)) (Grows-same 1 s) (at (mode.mode_in text))
    where
      at : (o : Option Mode) → Grows 1 s (mode.with_mode m s g (mode.freed g text) looks o)
      at None = Grows-same 1 s
      at (Some way) = record { serial = omega arith; locks = omega (arith, waiting-more (mode.changed m s g way) s.groups differ) }

  Grows-tasks : (g : Group) (text : List ℕ) → Grows 0 s (tasks.kept s g text)
  unfolding tasks.kept
  Grows-tasks g text = cond-both (Grows 0 s) (is_closed s (controlling g.gid g.kind)) s (record s { tasks = (tasks.moves_in s g text).tasks }) (Grows-same 0 s) (record { serial = omega arith; locks = omega arith })

  Grows-cpus : (g : Group) (read : Result (List ℕ) CpuFault) → Grows 0 s (cpus.accepted s g read)
  unfolding cpus.accepted
  Grows-cpus g (Ok numbers) = record { serial = omega arith; locks = omega arith }
  Grows-cpus g (Err fault) = Grows-same 0 s

  Grows-threshold : (text : List ℕ) → Grows 0 s (threshold.accepted m s text)
  unfolding threshold.accepted
  Grows-threshold text = at (threshold.threshold_in m text)
    where
      at : (o : Option ℕ) → Grows 0 s (threshold.with_threshold s o)
      at None = Grows-same 0 s
      at (Some n) = record { serial = omega arith; locks = omega arith }

  -- what is done for the group of a directory, where it exists
  Grows-option_map_or : (more : ℕ) (o : Option Group) (f : Group → State) → ((g : Group) → o ≡ Some g → Grows more s (f g)) → Grows more s (option_map_or f o s)
  Grows-option_map_or more None f each = Grows-same more s
  Grows-option_map_or more (Some g) f each = each g refl

  Grows-write : (path : PathRef) (text looks : List ℕ) → Grows (one_if (prepares (ops.Write path text))) s (write.accepted m s path text looks)
  unfolding write.accepted
  Grows-write (File dir kinds.Cpus) text looks = Grows-option_map_or 0 (group_at s dir) (λ g. cpus.accepted s g (cpus.mask_read m text)) (λ g is. Grows-cpus g (cpus.mask_read m text))
  Grows-write (File dir kinds.CpusList) text looks = Grows-option_map_or 0 (group_at s dir) (λ g. cpus.accepted s g (cpus.list_read m text)) (λ g is. Grows-cpus g (cpus.list_read m text))
  Grows-write (File dir kinds.Tasks) text looks = Grows-option_map_or 0 (group_at s dir) (λ g. tasks.kept s g text) (λ g is. Grows-tasks g text)
  Grows-write (File dir kinds.Schemata) text looks = Grows-option_map_or 1 (control_at s dir) (λ g. schemata.accepted s g (schemata.schemata_read m text)) (λ g is. Grows-schemata g (schemata.schemata_read m text) (find-control_at s dir g is))
  Grows-write (File dir kinds.Mode) text looks = Grows-option_map_or 1 (control_at s dir) (λ g. mode.accepted m s g text looks) (λ g is. Grows-mode g text looks)
  Grows-write (File dir kinds.MaxThreshold) text looks = Grows-threshold text
  Grows-write path text looks = Grows-same 0 s

  Grows-accepted : (op : Op) (looks : List ℕ) → Grows (one_if (prepares op)) s (accepted m s op looks)
  unfolding tick.accepted
  Grows-accepted (ops.Mkdir path) looks = Grows-mkdir path
  Grows-accepted (ops.Rmdir path) looks = Grows-rmdir path looks
  Grows-accepted (ops.Write path text) looks = Grows-write path text looks
  Grows-accepted ops.Tick looks = record { serial = omega arith; locks = omega arith }
  Grows-accepted op looks = Grows-same 0 s

  Grows-left : (op : Op) → Grows (one_if (prepares op)) s (left s op)
  unfolding write.refused
  Grows-left (ops.Write (File dir kinds.Tasks) text) = Grows-option_map_or 0 (group_at s dir) (λ g. tasks.kept s g text) (λ g is. Grows-tasks g text)
  Grows-left (ops.Write path text) = Grows-same (one_if (prepares (ops.Write path text))) s
  Grows-left op = Grows-same (one_if (prepares op)) s

-- with another last status
Grows-with_status : (more : ℕ) (s later : State) (op : Op) (reply : Reply) → Grows more s later → Grows more s (with_status op reply later)
Grows-with_status more s later (ops.Mkdir path) reply grows = record { serial = grows.serial; locks = grows.locks }
Grows-with_status more s later (ops.Write path text) reply grows = record { serial = grows.serial; locks = grows.locks }
Grows-with_status more s later op reply grows = grows

-- after a command
pub Grows-next : (m : Parameters) (s : State) (op : Op) (looks : List ℕ) → GidsDiffer s.groups → Grows (one_if (prepares op)) s (next m s op looks).state
unfolding next
Grows-next m s op looks differ = Grows-with_status (one_if (prepares op)) s (next_if m s op looks (refusal m s op)) op (reply_of (refusal m s op)) (at (refusal m s op))
  where
    at : (against : Option Refusal) → Grows (one_if (prepares op)) s (next_if m s op looks against)
    at None = Grows-accepted m s differ op looks
    at (Some r) = Grows-left m s differ op
