-- A command leaves all exclusive groups as they are but one.
use Rattle.std.proofs.Common.{◌≡◌, ℕ, Bool, true, false, not, cond, List, [], ◌∷◌, filter, refl, Option, Some, None, Ok, Err, ◌∙◌}
use Rattle.std.specs.Prelude.{option_and_then}
use Rattle.std.specs.Option.{option_map_or}
use Rattle.std.proofs.lemmas.Bool.{eqb-true}
use Rattle.std.proofs.lemmas.List.{append-nil}
use Rattle.std.proofs.lemmas.List.Elements.{filter-append}
use Rattle.group_tree.specs.Lists.{replaced}
use Rattle.group_tree.specs.Records.{has_gid, has_mode, is_control, is_other_in}
use Rattle.group_tree.specs.declared.group.Group.{Group}
use Rattle.lists.proofs.Choices.{cond-both}
use Rattle.lists.proofs.Tests.{find-found}
use Rattle.machine.specs.declared.parameters.Parameters.{Parameters}
use Rattle.path_names.specs.declared.dirs.DirRef.TheVariants.{Ctrl, Mon}
use Rattle.path_names.specs.declared.files.FileKind.TheVariants as kinds
use Rattle.path_names.specs.declared.path_ref.PathRef.{PathRef}
use Rattle.path_names.specs.declared.path_ref.PathRef.TheVariants.{Dir, File}
use Rattle.rc_base.specs.declared.names.Gid.{Gid}
use Rattle.rc_base.specs.declared.names.Mode.{Mode}
use Rattle.rc_base.specs.declared.names.Mode.TheVariants.{Shareable, Exclusive, LockSetup, Locked}
use Rattle.rc_base.specs.declared.replies.Reply.{Reply}
use Rattle.run_windows.specs.Changes.{AreKeptBut, changed_gid, removed_gid, written_gid}
use Rattle.run_windows.proofs.OtherLists.{filter-filter, stays-control, stays-monitor, filter-replaced}
use Rattle.schemata_text.specs.declared.assignment.Assignment.{Assignment}
use Rattle.schemata_text.specs.declared.fault.TextFault.{TextFault}
use Rattle.script_ops.specs.declared.op.Op.{Op}
use Rattle.script_ops.specs.declared.op.Op.TheVariants as ops
use Rattle.std.specs.Prelude.{Result}
use Rattle.tree_law.specs.Existing.{directory_gid, group_of, owner_gid}
use Rattle.tree_law.specs.Places.{controlling, group_at, is_closed, only_control}
use Rattle.tree_law.specs.Refusals.{Refusal, reply_of}
use Rattle.tree_law.specs.State.{State}
use Rattle.tree_law.specs.Steps.{accepted, left, next, next_if, refusal, with_status}
use Rattle.tree_law.specs.commands.Cpus as cpus
use Rattle.tree_law.specs.commands.Mkdir as mkdir
use Rattle.tree_law.specs.commands.Mode as mode
use Rattle.tree_law.specs.commands.Rmdir as rmdir
use Rattle.tree_law.specs.commands.Schemata as schemata
use Rattle.tree_law.specs.commands.Tasks as tasks
use Rattle.tree_law.specs.commands.Threshold as threshold
use Rattle.tree_law.specs.commands.Tick as tick
use Rattle.tree_law.specs.commands.Write as write

module _ (m : Parameters) (s : State) where
  -- another record of a group
  AreKeptBut-record : (gid : Gid) (new : Group) → gid.0 ≡ new.gid.0 → AreKeptBut (Some gid) s (record s { groups = replaced new s.groups })
  AreKeptBut-record gid new same = filter-replaced gid new s.groups same

  -- what is done for the control group of a directory, where it exists
  AreKeptBut-control : (o : Option Gid) (f : Group → State) → ((gid : Gid) (g : Group) → gid.0 ≡ g.gid.0 → AreKeptBut (Some gid) s (f g))
      → AreKeptBut o s (option_map_or f (option_and_then only_control (option_and_then (group_of s) o)) s)
  AreKeptBut-control None f each = refl
  AreKeptBut-control (Some gid) f each = at (group_of s gid) refl
    where
      its : (g : Group) → gid.0 ≡ g.gid.0 → (b : Bool) → AreKeptBut (Some gid) s (option_map_or f (cond b (Some g) None) s)
      its g same true = each gid g same
      its g same false = refl

      at : (o : Option Group) → group_of s gid ≡ o → AreKeptBut (Some gid) s (option_map_or f (option_and_then only_control o) s)
      at None none = refl
      at (Some g) found = its g (eqb-true gid.0 g.gid.0 (find-found (has_gid gid) s.groups g found).passes) (is_control g.kind)

  -- ---- the commands

  AreKeptBut-mkdir : (path : PathRef) → AreKeptBut None s (mkdir.accepted m s path)
  unfolding mkdir.accepted
  AreKeptBut-mkdir (Dir (Ctrl name)) = filter-append (has_mode Exclusive) s.groups (mkdir.new_control m s name ∷ []) ∙ append-nil (filter (has_mode Exclusive) s.groups)
  AreKeptBut-mkdir (Dir (Mon owner name)) = at (owner_gid s owner)
    where
      at : (o : Option Gid) → AreKeptBut None s (mkdir.with_monitor m s name o)
      at None = refl
      at (Some parent) = filter-append (has_mode Exclusive) s.groups (mkdir.new_monitor m s name parent ∷ []) ∙ append-nil (filter (has_mode Exclusive) s.groups)
  AreKeptBut-mkdir path = refl

  AreKeptBut-rmdir : (path : PathRef) (looks : List ℕ) → AreKeptBut (removed_gid s path) s (rmdir.accepted m s path looks)
  unfolding rmdir.accepted
  AreKeptBut-rmdir (Dir (Ctrl name)) looks = at (directory_gid s (Ctrl name))
    where
      at : (o : Option Gid) → AreKeptBut o s (option_map_or (λ gid. rmdir.without_control m s gid (rmdir.freed s (Dir (Ctrl name))) looks) o s)
      at None = refl
      at (Some gid) = filter-filter (is_other_in (Some gid) Exclusive) (λ (g : Group). not (rmdir.goes_with gid g)) (stays-control gid) s.groups
  AreKeptBut-rmdir (Dir (Mon owner name)) looks = at (directory_gid s (Mon owner name))
    where
      at : (o : Option Gid) → AreKeptBut o s (option_map_or (λ gid. rmdir.without_monitor m s gid (rmdir.freed s (Dir (Mon owner name))) looks) o s)
      at None = refl
      at (Some gid) = filter-filter (is_other_in (Some gid) Exclusive) (λ (g : Group). not (has_gid gid g)) (stays-monitor gid) s.groups
  AreKeptBut-rmdir path looks = refl

  AreKeptBut-schemata : (gid : Gid) (g : Group) → gid.0 ≡ g.gid.0 → (read : Result (List Assignment) TextFault) → AreKeptBut (Some gid) s (schemata.accepted s g read)
  unfolding schemata.accepted
  AreKeptBut-schemata gid g same (Err fault) = refl
  AreKeptBut-schemata gid g same (Ok all) = by_mode g.mode all
    where
      first : (all : List Assignment) → AreKeptBut (Some gid) s (schemata.with_first s g all)
      first [] = refl
      first (a ∷ more) = AreKeptBut-record gid (schemata.locked g a) same

      by_mode : (way : Mode) (all : List Assignment) → AreKeptBut (Some gid) s (schemata.with_masks s g way all)
      by_mode Shareable all = AreKeptBut-record gid (record g { masks = schemata.assigned g.masks all }) same
      by_mode Exclusive all = AreKeptBut-record gid (record g { masks = schemata.assigned g.masks all }) same
      by_mode LockSetup all = first all
      by_mode Locked all = refl

  AreKeptBut-mode : (gid : Gid) (g : Group) → gid.0 ≡ g.gid.0 → (text looks : List ℕ) → AreKeptBut (Some gid) s (mode.accepted m s g text looks)
  unfolding mode.accepted
  AreKeptBut-mode gid g same text looks = cond-both (λ (x : State). AreKeptBut (Some gid) s x) (mode.is_present g.mode text) s (mode.with_mode m s g (mode.freed g text) looks (mode.mode_in text)) refl (at (mode.mode_in text))
    where
      at : (o : Option Mode) → AreKeptBut (Some gid) s (mode.with_mode m s g (mode.freed g text) looks o)
      at None = refl
      at (Some way) = AreKeptBut-record gid (mode.changed m s g way) same

  AreKeptBut-tasks : (g : Group) (text : List ℕ) → AreKeptBut None s (tasks.kept s g text)
  unfolding tasks.kept
  AreKeptBut-tasks g text = cond-both (λ (x : State). AreKeptBut None s x) (is_closed s (controlling g.gid g.kind)) s (record s { tasks = (tasks.moves_in s g text).tasks }) refl refl

  AreKeptBut-cpus : (g : Group) (text : List ℕ) → AreKeptBut None s (cpus.accepted s g (cpus.mask_read m text))
  unfolding cpus.accepted
  AreKeptBut-cpus g text = elim (cpus.mask_read m text) as (λ read. AreKeptBut None s (cpus.accepted s g read)) [
    | Ok numbers ↦ refl
    | Err fault ↦ refl
  ]

  AreKeptBut-cpus_list : (g : Group) (text : List ℕ) → AreKeptBut None s (cpus.accepted s g (cpus.list_read m text))
  unfolding cpus.accepted
  AreKeptBut-cpus_list g text = elim (cpus.list_read m text) as (λ read. AreKeptBut None s (cpus.accepted s g read)) [
    | Ok numbers ↦ refl
    | Err fault ↦ refl
  ]

  AreKeptBut-threshold : (text : List ℕ) → AreKeptBut None s (threshold.accepted m s text)
  unfolding threshold.accepted
  AreKeptBut-threshold text = at (threshold.threshold_in m text)
    where
      at : (o : Option ℕ) → AreKeptBut None s (threshold.with_threshold s o)
      at None = refl
      at (Some n) = refl

  -- what is done for the group of a directory, where it exists
  AreKeptBut-group : (o : Option Group) (f : Group → State) → ((g : Group) → AreKeptBut None s (f g)) → AreKeptBut None s (option_map_or f o s)
  AreKeptBut-group None f each = refl
  AreKeptBut-group (Some g) f each = each g

  AreKeptBut-write : (path : PathRef) (text looks : List ℕ) → AreKeptBut (written_gid s path) s (write.accepted m s path text looks)
  unfolding write.accepted
  AreKeptBut-write (File dir kinds.Cpus) text looks = AreKeptBut-group (group_at s dir) (λ g. cpus.accepted s g (cpus.mask_read m text)) (λ g. AreKeptBut-cpus g text)
  AreKeptBut-write (File dir kinds.CpusList) text looks = AreKeptBut-group (group_at s dir) (λ g. cpus.accepted s g (cpus.list_read m text)) (λ g. AreKeptBut-cpus_list g text)
  AreKeptBut-write (File dir kinds.Tasks) text looks = AreKeptBut-group (group_at s dir) (λ g. tasks.kept s g text) (λ g. AreKeptBut-tasks g text)
  AreKeptBut-write (File dir kinds.Schemata) text looks =
      AreKeptBut-control (directory_gid s dir) (λ g. schemata.accepted s g (schemata.schemata_read m text)) (λ gid g same. AreKeptBut-schemata gid g same (schemata.schemata_read m text))
  AreKeptBut-write (File dir kinds.Mode) text looks = AreKeptBut-control (directory_gid s dir) (λ g. mode.accepted m s g text looks) (λ gid g same. AreKeptBut-mode gid g same text looks)
  AreKeptBut-write (File dir kinds.MaxThreshold) text looks = AreKeptBut-threshold text
  AreKeptBut-write path text looks = refl

  AreKeptBut-accepted : (op : Op) (looks : List ℕ) → AreKeptBut (changed_gid s op) s (accepted m s op looks)
  unfolding tick.accepted
  AreKeptBut-accepted (ops.Mkdir path) looks = AreKeptBut-mkdir path
  AreKeptBut-accepted (ops.Rmdir path) looks = AreKeptBut-rmdir path looks
  AreKeptBut-accepted (ops.Write path text) looks = AreKeptBut-write path text looks
  AreKeptBut-accepted op looks = refl

  -- a refused command changes no group
  AreKeptBut-left : (o : Option Gid) (op : Op) → AreKeptBut o s (left s op)
  unfolding write.refused tasks.kept
  AreKeptBut-left o (ops.Write (File dir kinds.Tasks) text) = at (group_at s dir)
    where
      at : (x : Option Group) → AreKeptBut o s (option_map_or (λ g. tasks.kept s g text) x s)
      at None = refl
      at (Some g) = cond-both (λ (x : State). AreKeptBut o s x) (is_closed s (controlling g.gid g.kind)) s (record s { tasks = (tasks.moves_in s g text).tasks }) refl refl
  AreKeptBut-left o (ops.Write path text) = refl
  AreKeptBut-left o op = refl

-- with another last status
AreKeptBut-with_status : (o : Option Gid) (s t : State) (op : Op) (reply : Reply) → AreKeptBut o s t → AreKeptBut o s (with_status op reply t)
AreKeptBut-with_status o s t (ops.Mkdir path) reply kept = kept
AreKeptBut-with_status o s t (ops.Write path text) reply kept = kept
AreKeptBut-with_status o s t op reply kept = kept

-- after a command
pub AreKeptBut-next : (m : Parameters) (s : State) (op : Op) (looks : List ℕ) → AreKeptBut (changed_gid s op) s (next m s op looks).state
unfolding next
AreKeptBut-next m s op looks = AreKeptBut-with_status (changed_gid s op) s (next_if m s op looks (refusal m s op)) op (reply_of (refusal m s op)) (at (refusal m s op))
  where
    at : (against : Option Refusal) → AreKeptBut (changed_gid s op) s (next_if m s op looks against)
    at None = AreKeptBut-accepted m s op looks
    at (Some r) = AreKeptBut-left m s (changed_gid s op) op
