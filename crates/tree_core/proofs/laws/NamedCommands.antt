-- Each command whose names are known and short keeps the names of groups so.
use Rattle.std.proofs.Common.{◌≡◌, ℕ, Bool, true, false, List, [], ◌∷◌, ◌++◌, length, get_or, cond, not, refl, Option, Some, None, Result, Ok, Err, subst, arith, length-append}
use Rattle.std.specs.Option.{option_map_or}
use Rattle.std.proofs.lemmas.List.Elements.{All-filter, All-map, All-push}
use Rattle.std.proofs.Math.Seq.{get_or-append_seam}
use Rattle.std.proofs.lemmas.Option.{same_Some}
use Rattle.group_tree.specs.Lists.{exchanged, replaced}
use Rattle.group_tree.specs.Records.{has_gid, is_control}
use Rattle.group_tree.specs.declared.group.Group.{Group}
use Rattle.cpu_lists.specs.declared.fault.CpuFault.{CpuFault}
use Rattle.lists.proofs.Choices.{cond-both}
use Rattle.lists.proofs.Tests.{IsFound-all, find-found}
use Rattle.machine.specs.declared.parameters.Parameters.{Parameters}
use Rattle.path_names.proofs.laws.KnownIds.{AreKnown-last}
use Rattle.path_names.specs.NamesIn.{owner_ids, path_ids, AreKnown}
use Rattle.path_names.specs.ShortNames.{AreShort, IsShortName, component_ids}
use Rattle.path_names.specs.declared.dirs.DirRef.{DirRef}
use Rattle.path_names.specs.declared.dirs.DirRef.TheVariants.{Ctrl, Mon}
use Rattle.path_names.specs.declared.files.FileKind.TheVariants as kinds
use Rattle.path_names.specs.declared.names.NameId.{NameId}
use Rattle.path_names.specs.declared.path_ref.PathRef.{PathRef}
use Rattle.path_names.specs.declared.path_ref.PathRef.TheVariants.{Dir, File}
use Rattle.rc_base.specs.declared.names.Gid.{Gid}
use Rattle.rc_base.specs.declared.names.Mode.{Mode}
use Rattle.rc_base.specs.declared.names.Mode.TheVariants.{Shareable, Exclusive, LockSetup, Locked}
use Rattle.rc_base.specs.declared.replies.Reply.{Reply}
use Rattle.schemata_text.specs.declared.assignment.Assignment.{Assignment}
use Rattle.schemata_text.specs.declared.fault.TextFault.{TextFault}
use Rattle.script_ops.specs.Canonical.{IsShort, op_ids}
use Rattle.script_ops.specs.declared.op.Op.{Op}
use Rattle.script_ops.specs.declared.op.Op.TheVariants as ops
use Rattle.lists.proofs.Options.{option_and_then-some}
use Rattle.tree_core.specs.Named.{AreNamed, IsName, IsNamed}
use Rattle.tree_law.specs.Existing.{directory_gid, group_of, owner_gid}
use Rattle.tree_law.specs.Places.{control_at, controlling, group_at, is_closed, only_control}
use Rattle.tree_law.specs.State.{State}
use Rattle.tree_law.specs.Steps.{accepted, left, with_status}
use Rattle.tree_law.specs.commands.Cpus as cpus
use Rattle.tree_law.specs.commands.Mkdir as mkdir
use Rattle.tree_law.specs.commands.Mode as mode
use Rattle.tree_law.specs.commands.Rmdir as rmdir
use Rattle.tree_law.specs.commands.Schemata as schemata
use Rattle.tree_law.specs.commands.Tasks as tasks
use Rattle.tree_law.specs.commands.Threshold as threshold
use Rattle.tree_law.specs.commands.Tick as tick
use Rattle.tree_law.specs.commands.Write as write

-- the last of short names
AreShort-last : (names : List (List ℕ)) (ids : List ℕ) (id : ℕ) → AreShort names (ids ++ id ∷ []) → IsShortName names id
AreShort-last names ids id short = subst (IsShortName names) (get_or-append_seam ids id [] id) (short (length ids) id (omega (arith, length-append ids (id ∷ []))))

module _ (names : List (List ℕ)) where
  -- one more group with a known and short name
  AreNamed-push : (groups : List Group) (g : Group) → IsNamed names g → AreNamed names groups → AreNamed names (groups ++ g ∷ [])
  AreNamed-push groups g is named = All-push (IsNamed names) groups g named is

  -- a record that takes the place of one, and has a known name
  AreNamed-replaced : (new : Group) (groups : List Group) → IsNamed names new → AreNamed names groups → AreNamed names (replaced new groups)
  AreNamed-replaced new groups is named = All-map (IsNamed names) (exchanged new) groups (λ k d within. cond-both (IsNamed names) (has_gid new.gid (get_or groups k d)) new (get_or groups k d) is (named k d within))

  -- the group of a directory
  IsNamed-group_at : (s : State) (dir : DirRef) (g : Group) → AreNamed names s.groups → group_at s dir ≡ Some g → IsNamed names g
  IsNamed-group_at s dir g named is =
      let by = option_and_then-some (group_of s) (directory_gid s dir) g is in
      IsFound-all (IsNamed names) (has_gid by.0) s.groups g (find-found (has_gid by.0) s.groups g by.2) named

  -- the control group of a directory
  IsNamed-control_at : (s : State) (dir : DirRef) (g : Group) → AreNamed names s.groups → control_at s dir ≡ Some g → IsNamed names g
  IsNamed-control_at s dir g named is =
      let at = option_and_then-some only_control (group_at s dir) g is in
      either at.0 (is_control at.0.kind) (IsNamed-group_at s dir at.0 named at.1) at.2
    where
      either : (x : Group) (b : Bool) → IsNamed names x → cond b (Some x) None ≡ Some g → IsNamed names g
      either x true known e = subst (IsNamed names) (let some : Some x ≡ Some g = e in same_Some x g some) known
      either x false known e = absurd (let none : None ≡ Some g = e in cc)

  -- ---- the commands

  -- a monitor group more
  AreNamed-with_monitor : (m : Parameters) (s : State) (name : NameId) (parent : Option Gid) → IsName names name → AreNamed names s.groups → AreNamed names (mkdir.with_monitor m s name parent).groups
  AreNamed-with_monitor m s name None known named = named
  AreNamed-with_monitor m s name (Some parent) known named = AreNamed-push s.groups (mkdir.new_monitor m s name parent) known named

  -- after mkdir
  AreNamed-mkdir : (m : Parameters) (s : State) (path : PathRef) → AreKnown (length names) (path_ids path) → AreShort names (component_ids path) → AreNamed names s.groups → AreNamed names (mkdir.accepted m s path).groups
  unfolding mkdir.accepted
  AreNamed-mkdir m s (Dir (Ctrl name)) known short named = AreNamed-push s.groups (mkdir.new_control m s name) (record { known = known 0 name.0 (omega arith); short = short 0 name.0 (omega arith) }) named
  AreNamed-mkdir m s (Dir (Mon owner name)) known short named =
      AreNamed-with_monitor m s name (owner_gid s owner) (record { known = AreKnown-last (length names) (owner_ids owner) name.0 known; short = AreShort-last names (owner_ids owner) name.0 short }) named
  AreNamed-mkdir m s path known short named = named

  -- after rmdir
  AreNamed-rmdir : (m : Parameters) (s : State) (path : PathRef) (looks : List ℕ) → AreNamed names s.groups → AreNamed names (rmdir.accepted m s path looks).groups
  unfolding rmdir.accepted
  AreNamed-rmdir m s (Dir (Ctrl name)) looks named = at (directory_gid s (Ctrl name))
    where
      at : (o : Option Gid) → AreNamed names (option_map_or (λ gid. rmdir.without_control m s gid (rmdir.freed s (Dir (Ctrl name))) looks) o s).groups
      at None = named
      at (Some gid) = All-filter (λ g. not (rmdir.goes_with gid g)) (IsNamed names) s.groups named
  AreNamed-rmdir m s (Dir (Mon owner name)) looks named = at (directory_gid s (Mon owner name))
    where
      at : (o : Option Gid) → AreNamed names (option_map_or (λ gid. rmdir.without_monitor m s gid (rmdir.freed s (Dir (Mon owner name))) looks) o s).groups
      at None = named
      at (Some gid) = All-filter (λ (g : Group). not (has_gid gid g)) (IsNamed names) s.groups named
  AreNamed-rmdir m s path looks named = named

  -- after a write of `schemata`
  AreNamed-schemata : (s : State) (g : Group) (read : Result (List Assignment) TextFault) → IsNamed names g → AreNamed names s.groups → AreNamed names (schemata.accepted s g read).groups
  unfolding schemata.accepted
  AreNamed-schemata s g (Err fault) known named = named
  AreNamed-schemata s g (Ok all) known named = by_mode g.mode all
    where
      first : (all : List Assignment) → AreNamed names (schemata.with_first s g all).groups
      first [] = named
      first (a ∷ more) = AreNamed-replaced (schemata.locked g a) s.groups known named

      by_mode : (way : Mode) (all : List Assignment) → AreNamed names (schemata.with_masks s g way all).groups
      by_mode Shareable all = AreNamed-replaced (record g { masks = schemata.assigned g.masks all }) s.groups known named
      by_mode Exclusive all = AreNamed-replaced (record g { masks = schemata.assigned g.masks all }) s.groups known named
      by_mode LockSetup all = first all
      by_mode Locked all = named

  -- after a write of `mode`
  AreNamed-mode : (m : Parameters) (s : State) (g : Group) (text looks : List ℕ) → IsNamed names g → AreNamed names s.groups → AreNamed names (mode.accepted m s g text looks).groups
  unfolding mode.accepted
  AreNamed-mode m s g text looks known named = cond-both (λ (x : State). AreNamed names x.groups) (mode.is_present g.mode text) s (mode.with_mode m s g (mode.freed g text) looks (mode.mode_in text)) named (at (mode.mode_in text))
    where
      at : (o : Option Mode) → AreNamed names (mode.with_mode m s g (mode.freed g text) looks o).groups
      at None = named
      at (Some way) = AreNamed-replaced (mode.changed m s g way) s.groups known named

  -- after a write of `tasks`
  AreNamed-tasks : (s : State) (g : Group) (text : List ℕ) → AreNamed names s.groups → AreNamed names (tasks.kept s g text).groups
  unfolding tasks.kept
  AreNamed-tasks s g text named = cond-both (λ (x : State). AreNamed names x.groups) (is_closed s (controlling g.gid g.kind)) s (record s { tasks = (tasks.moves_in s g text).tasks }) named named

  -- after a write of `cpus` or `cpus_list`
  AreNamed-cpus : (s : State) (g : Group) (read : Result (List ℕ) CpuFault) → AreNamed names s.groups → AreNamed names (cpus.accepted s g read).groups
  unfolding cpus.accepted
  AreNamed-cpus s g (Ok numbers) named = named
  AreNamed-cpus s g (Err fault) named = named

  -- after a write of `max_threshold_occupancy`
  AreNamed-threshold : (m : Parameters) (s : State) (text : List ℕ) → AreNamed names s.groups → AreNamed names (threshold.accepted m s text).groups
  unfolding threshold.accepted
  AreNamed-threshold m s text named = at (threshold.threshold_in m text)
    where
      at : (o : Option ℕ) → AreNamed names (threshold.with_threshold s o).groups
      at None = named
      at (Some n) = named

  -- what is done for the group of a directory, where it exists
  AreNamed-option_map_or : (s : State) (o : Option Group) (f : Group → State) → ((g : Group) → o ≡ Some g → AreNamed names (f g).groups) → AreNamed names s.groups → AreNamed names (option_map_or f o s).groups
  AreNamed-option_map_or s None f each named = named
  AreNamed-option_map_or s (Some g) f each named = each g refl

  -- after any write
  AreNamed-write : (m : Parameters) (s : State) (path : PathRef) (text looks : List ℕ) → AreNamed names s.groups → AreNamed names (write.accepted m s path text looks).groups
  unfolding write.accepted
  AreNamed-write m s (File dir kinds.Cpus) text looks named = AreNamed-option_map_or s (group_at s dir) (λ g. cpus.accepted s g (cpus.mask_read m text)) (λ g is. AreNamed-cpus s g (cpus.mask_read m text) named) named
  AreNamed-write m s (File dir kinds.CpusList) text looks named = AreNamed-option_map_or s (group_at s dir) (λ g. cpus.accepted s g (cpus.list_read m text)) (λ g is. AreNamed-cpus s g (cpus.list_read m text) named) named
  AreNamed-write m s (File dir kinds.Tasks) text looks named = AreNamed-option_map_or s (group_at s dir) (λ g. tasks.kept s g text) (λ g is. AreNamed-tasks s g text named) named
  AreNamed-write m s (File dir kinds.Schemata) text looks named = AreNamed-option_map_or s (control_at s dir) (λ g. schemata.accepted s g (schemata.schemata_read m text)) (λ g is. AreNamed-schemata s g (schemata.schemata_read m text) (IsNamed-control_at s dir g named is) named) named
  AreNamed-write m s (File dir kinds.Mode) text looks named = AreNamed-option_map_or s (control_at s dir) (λ g. mode.accepted m s g text looks) (λ g is. AreNamed-mode m s g text looks (IsNamed-control_at s dir g named is) named) named
  AreNamed-write m s (File dir kinds.MaxThreshold) text looks named = AreNamed-threshold m s text named
  AreNamed-write m s path text looks named = named

  -- after any command that is accepted
  pub AreNamed-accepted : (m : Parameters) (s : State) (op : Op) (looks : List ℕ) → AreKnown (length names) (op_ids op) → IsShort names op → AreNamed names s.groups → AreNamed names (accepted m s op looks).groups
  unfolding tick.accepted
  AreNamed-accepted m s (ops.Mkdir path) looks known short named = AreNamed-mkdir m s path known short named
  AreNamed-accepted m s (ops.Rmdir path) looks known short named = AreNamed-rmdir m s path looks named
  AreNamed-accepted m s (ops.Write path text) looks known short named = AreNamed-write m s path text looks named
  AreNamed-accepted m s op looks known short named = named

  -- after any command that is refused
  pub AreNamed-left : (s : State) (op : Op) → AreNamed names s.groups → AreNamed names (left s op).groups
  unfolding write.refused
  AreNamed-left s (ops.Write (File dir kinds.Tasks) text) named = AreNamed-option_map_or s (group_at s dir) (λ g. tasks.kept s g text) (λ g is. AreNamed-tasks s g text named) named
  AreNamed-left s (ops.Write path text) named = named
  AreNamed-left s op named = named

  -- with another last status
  pub AreNamed-with_status : (s : State) (op : Op) (reply : Reply) → AreNamed names s.groups → AreNamed names (with_status op reply s).groups
  AreNamed-with_status s (ops.Mkdir path) reply named = named
  AreNamed-with_status s (ops.Write path text) reply named = named
  AreNamed-with_status s op reply named = named
