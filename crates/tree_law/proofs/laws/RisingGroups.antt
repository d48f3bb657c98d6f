-- Groups stand in order of creation, with rising gids.
use Rattle.std.proofs.Common.{◌≡◌, ℕ, ◌<◌, not, List, [], ◌∷◌, ◌++◌, get_or, refl, Option, Some, None, Result, Ok, Err, arith}
use Rattle.std.specs.List.{All, AllPairs}
use Rattle.std.specs.Option.{option_map_or}
use Rattle.std.proofs.lemmas.List.Kept.{AllPairs-filter}
use Rattle.std.proofs.lemmas.List.Quantifiers.{all_pairs_push}
use Rattle.cpu_lists.specs.declared.fault.CpuFault.{CpuFault}
use Rattle.group_tree.specs.Lists.{exchanged, replaced}
use Rattle.group_tree.specs.Records.{has_gid}
use Rattle.group_tree.specs.declared.group.Group.{Group}
use Rattle.lists.proofs.Choices.{cond-both}
use Rattle.lists.proofs.Pairs.{AllPairs-map, AllPairs-one}
use Rattle.machine.specs.declared.parameters.Parameters.{Parameters}
use Rattle.path_names.specs.declared.dirs.DirRef.TheVariants.{Ctrl, Mon}
use Rattle.path_names.specs.declared.files.FileKind.TheVariants as kinds
use Rattle.path_names.specs.declared.path_ref.PathRef.{PathRef}
use Rattle.path_names.specs.declared.path_ref.PathRef.TheVariants.{Dir, File}
use Rattle.rc_base.specs.declared.names.Gid.{Gid}
use Rattle.rc_base.specs.declared.names.Mode.{Mode}
use Rattle.rc_base.specs.declared.names.Mode.TheVariants.{Shareable, Exclusive, LockSetup, Locked}
use Rattle.rc_base.specs.declared.replies.Reply.{Reply}
use Rattle.schemata_text.specs.declared.assignment.Assignment.{Assignment}
use Rattle.schemata_text.specs.declared.fault.TextFault.{TextFault}
use Rattle.script_ops.specs.declared.op.Op.{Op}
use Rattle.script_ops.specs.declared.op.Op.TheVariants as ops
use Rattle.tree_law.specs.Existing.{directory_gid, owner_gid}
use Rattle.tree_law.specs.Places.{control_at, controlling, group_at, is_closed}
use Rattle.tree_law.specs.Refusals.{Refusal, reply_of}
use Rattle.tree_law.specs.State.{State, opening}
use Rattle.tree_law.specs.Steps.{accepted, left, next, next_if, refusal, with_status}
use Rattle.tree_law.specs.commands.Cpus as cpus
use Rattle.tree_law.specs.commands.Mkdir as mkdir
use Rattle.tree_law.specs.commands.Mode as mode
use Rattle.tree_law.specs.commands.Rmdir as rmdir
use Rattle.tree_law.specs.commands.Schemata as schemata
use Rattle.tree_law.specs.commands.Tasks as tasks
use Rattle.tree_law.specs.commands.Threshold as threshold
use Rattle.tree_law.specs.commands.Tick as tick
use Rattle.tree_law.specs.commands.Write as write
use Rattle.group_tree.proofs.laws.Records.{exchanged-gid}

-- each group has a lower gid than those after it
abbrev pub AreRisen : List Group → Type 0
AreRisen groups = AllPairs (λ (a b : Group). a.gid.0 < b.gid.0) groups

-- ---- lists

AreRisen-replaced : (new : Group) (groups : List Group) → AreRisen groups → AreRisen (replaced new groups)
AreRisen-replaced new groups risen = AllPairs-map (λ (a b : Group). a.gid.0 < b.gid.0) (exchanged new) groups (λ i j d below within.
    let lt = risen i j d below within in
    let one = exchanged-gid new (get_or groups i d) in
    let two = exchanged-gid new (get_or groups j d) in
    omega (arith, lt, one, two))

-- one more with the next gid
AreRisen-push : (s : State) (g : Group) → g.gid.0 ≡ s.next_gid → All (λ (x : Group). x.gid.0 < s.next_gid) s.groups → AreRisen s.groups → AreRisen (s.groups ++ g ∷ [])
AreRisen-push s g is below risen = all_pairs_push (λ (a b : Group). a.gid.0 < b.gid.0) s.groups g risen (λ k d within. let lt = below k d within in omega (arith, lt, is))

-- ---- the commands

module _ (m : Parameters) (s : State) (below : All (λ (x : Group). x.gid.0 < s.next_gid) s.groups) (risen : AreRisen s.groups) where
  AreRisen-mkdir : (path : PathRef) → AreRisen (mkdir.accepted m s path).groups
  unfolding mkdir.accepted
  AreRisen-mkdir (Dir (Ctrl name)) = AreRisen-push s (mkdir.new_control m s name) refl below risen
  AreRisen-mkdir (Dir (Mon owner name)) = at (owner_gid s owner)
    where
      at : (o : Option Gid) → AreRisen (mkdir.with_monitor m s name o).groups
      at None = risen
      at (Some parent) = AreRisen-push s (mkdir.new_monitor m s name parent) refl below risen
  AreRisen-mkdir path = risen

  AreRisen-rmdir : (path : PathRef) (looks : List ℕ) → AreRisen (rmdir.accepted m s path looks).groups
  unfolding rmdir.accepted
  AreRisen-rmdir (Dir (Ctrl name)) looks = at (directory_gid s (Ctrl name))
    where
      at : (o : Option Gid) → AreRisen (option_map_or (λ gid. rmdir.without_control m s gid (rmdir.freed s (Dir (Ctrl name))) looks) o s).groups
      at None = risen
      at (Some gid) = AllPairs-filter (λ (a b : Group). a.gid.0 < b.gid.0) (λ g. not (rmdir.goes_with gid g)) s.groups risen
  AreRisen-rmdir (Dir (Mon owner name)) looks = at (directory_gid s (Mon owner name))
    where
      at : (o : Option Gid) → AreRisen (option_map_or (λ gid. rmdir.without_monitor m s gid (rmdir.freed s (Dir (Mon owner name))) looks) o s).groups
      at None = risen
      at (Some gid) = AllPairs-filter (λ (a b : Group). a.gid.0 < b.gid.0) (λ (g : Group). not (has_gid gid g)) s.groups risen
  AreRisen-rmdir path looks = risen

  AreRisen-schemata : (g : Group) (read : Result (List Assignment) TextFault) → AreRisen (schemata.accepted s g read).groups
  unfolding schemata.accepted
  AreRisen-schemata g (Err fault) = risen
  AreRisen-schemata g (Ok all) = by_mode g.mode all
    where
      first : (all : List Assignment) → AreRisen (schemata.with_first s g all).groups
      first [] = risen
      first (a ∷ more) = AreRisen-replaced (schemata.locked g a) s.groups risen

      by_mode : (way : Mode) (all : List Assignment) → AreRisen (schemata.with_masks s g way all).groups
      by_mode Shareable all = AreRisen-replaced (record g { masks = schemata.assigned g.masks all }) s.groups risen
      by_mode Exclusive all = AreRisen-replaced (record g { masks = schemata.assigned g.masks all }) s.groups risen
      by_mode LockSetup all = first all
      by_mode Locked all = risen

  AreRisen-mode : (g : Group) (text looks : List ℕ) → AreRisen (mode.accepted m s g text looks).groups
  unfolding mode.accepted
  AreRisen-mode g text looks = cond-both (λ (x : State). AreRisen x.groups) (mode.is_present g.mode text) s (mode.with_mode m s g (mode.freed g text) looks (mode.mode_in text)) risen (at (mode.mode_in text))
    where
      at : (o : Option Mode) → AreRisen (mode.with_mode m s g (mode.freed g text) looks o).groups
      at None = risen
      at (Some way) = AreRisen-replaced (mode.changed m s g way) s.groups risen

  AreRisen-tasks : (g : Group) (text : List ℕ) → AreRisen (tasks.kept s g text).groups
  unfolding tasks.kept
  AreRisen-tasks g text = cond-both (λ (x : State). AreRisen x.groups) (is_closed s (controlling g.gid g.kind)) s (record s { tasks = (tasks.moves_in s g text).tasks }) risen risen

  AreRisen-cpus : (g : Group) (read : Result (List ℕ) CpuFault) → AreRisen (cpus.accepted s g read).groups
  unfolding cpus.accepted
  AreRisen-cpus g (Ok numbers) = risen
  AreRisen-cpus g (Err fault) = risen

  AreRisen-threshold : (text : List ℕ) → AreRisen (threshold.accepted m s text).groups
  unfolding threshold.accepted
  AreRisen-threshold text = at (threshold.threshold_in m text)
    where
      at : (o : Option ℕ) → AreRisen (threshold.with_threshold s o).groups
      at None = risen
      at (Some n) = risen

  -- what is done for the group of a directory, where it exists
  AreRisen-option_map_or : (o : Option Group) (f : Group → State) → ((g : Group) → AreRisen (f g).groups) → AreRisen (option_map_or f o s).groups
  AreRisen-option_map_or None f each = risen
  AreRisen-option_map_or (Some g) f each = each g

  AreRisen-write : (path : PathRef) (text looks : List ℕ) → AreRisen (write.accepted m s path text looks).groups
  unfolding write.accepted
  AreRisen-write (File dir kinds.Cpus) text looks = AreRisen-option_map_or (group_at s dir) (λ g. cpus.accepted s g (cpus.mask_read m text)) (λ g. AreRisen-cpus g (cpus.mask_read m text))
  AreRisen-write (File dir kinds.CpusList) text looks = AreRisen-option_map_or (group_at s dir) (λ g. cpus.accepted s g (cpus.list_read m text)) (λ g. AreRisen-cpus g (cpus.list_read m text))
  AreRisen-write (File dir kinds.Tasks) text looks = AreRisen-option_map_or (group_at s dir) (λ g. tasks.kept s g text) (λ g. AreRisen-tasks g text)
  AreRisen-write (File dir kinds.Schemata) text looks = AreRisen-option_map_or (control_at s dir) (λ g. schemata.accepted s g (schemata.schemata_read m text)) (λ g. AreRisen-schemata g (schemata.schemata_read m text))
  AreRisen-write (File dir kinds.Mode) text looks = AreRisen-option_map_or (control_at s dir) (λ g. mode.accepted m s g text looks) (λ g. AreRisen-mode g text looks)
  AreRisen-write (File dir kinds.MaxThreshold) text looks = AreRisen-threshold text
  AreRisen-write path text looks = risen

  AreRisen-accepted : (op : Op) (looks : List ℕ) → AreRisen (accepted m s op looks).groups
  unfolding tick.accepted
  AreRisen-accepted (ops.Mkdir path) looks = AreRisen-mkdir path
  AreRisen-accepted (ops.Rmdir path) looks = AreRisen-rmdir path looks
  AreRisen-accepted (ops.Write path text) looks = AreRisen-write path text looks
  AreRisen-accepted op looks = risen

  AreRisen-left : (op : Op) → AreRisen (left s op).groups
  unfolding write.refused
  AreRisen-left (ops.Write (File dir kinds.Tasks) text) = AreRisen-option_map_or (group_at s dir) (λ g. tasks.kept s g text) (λ g. AreRisen-tasks g text)
  AreRisen-left (ops.Write path text) = risen
  AreRisen-left op = risen

-- with another last status
AreRisen-with_status : (s : State) (op : Op) (reply : Reply) → AreRisen s.groups → AreRisen (with_status op reply s).groups
AreRisen-with_status s (ops.Mkdir path) reply risen = risen
AreRisen-with_status s (ops.Write path text) reply risen = risen
AreRisen-with_status s op reply risen = risen

-- after a command
pub AreRisen-next : (m : Parameters) (s : State) (op : Op) (looks : List ℕ) → All (λ (x : Group). x.gid.0 < s.next_gid) s.groups → AreRisen s.groups → AreRisen (next m s op looks).state.groups
unfolding next
AreRisen-next m s op looks below risen = AreRisen-with_status (next_if m s op looks (refusal m s op)) op (reply_of (refusal m s op)) (at (refusal m s op))
  where
    at : (against : Option Refusal) → AreRisen (next_if m s op looks against).groups
    at None = AreRisen-accepted m s below risen op looks
    at (Some r) = AreRisen-left m s below risen op

-- at first
pub AreRisen-opening : (m : Parameters) (tasks : List ℕ) → AreRisen (opening m tasks).groups
AreRisen-opening m tasks = AllPairs-one (λ (a b : Group). a.gid.0 < b.gid.0) _
