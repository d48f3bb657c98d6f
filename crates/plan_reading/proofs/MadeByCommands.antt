-- Each command leaves control groups whose names commands gave them.
use Rattle.std.proofs.Common.{◌≡◌, ℕ, Bool, true, false, List, [], ◌∷◌, ◌++◌, get_or, cond, not, refl, Option, Some, None, Result, Ok, Err, subst}
use Rattle.std.specs.Option.{option_map_or}
use Rattle.std.proofs.lemmas.List.Elements.{All-filter, All-map, All-nil, All-push}
use Rattle.std.proofs.lemmas.Option.{same_Some}
use Rattle.group_tree.specs.Lists.{exchanged, replaced}
use Rattle.group_tree.specs.Records.{has_gid, is_control}
use Rattle.group_tree.specs.declared.group.Group.{Group}
use Rattle.cpu_lists.specs.declared.fault.CpuFault.{CpuFault}
use Rattle.lists.proofs.Choices.{cond-both}
use Rattle.lists.proofs.Tests.{IsFound-all, find-found}
use Rattle.machine.specs.declared.parameters.Parameters.{Parameters}
use Rattle.path_names.specs.declared.dirs.DirRef.{DirRef}
use Rattle.path_names.specs.declared.dirs.DirRef.TheVariants.{Ctrl, Mon}
use Rattle.path_names.specs.declared.files.FileKind.TheVariants as kinds
use Rattle.path_names.specs.declared.names.NameId.{NameId}
use Rattle.path_names.specs.declared.path_ref.PathRef.{PathRef}
use Rattle.path_names.specs.declared.path_ref.PathRef.TheVariants.{Dir, File}
use Rattle.rc_base.specs.declared.names.Gid.{Gid}
use Rattle.rc_base.specs.declared.names.Mode.{Mode}
use Rattle.rc_base.specs.declared.names.Mode.TheVariants.{Shareable, Exclusive, LockSetup, Locked}
use Rattle.schemata_text.specs.declared.assignment.Assignment.{Assignment}
use Rattle.schemata_text.specs.declared.fault.TextFault.{TextFault}
use Rattle.script_ops.specs.declared.op.Op.{Op}
use Rattle.script_ops.specs.declared.op.Op.TheVariants as ops
use Rattle.lists.proofs.Options.{option_and_then-some}
use Rattle.tree_law.specs.Existing.{directory_gid, group_of, owner_gid}
use Rattle.tree_law.specs.Places.{control_at, controlling, group_at, is_closed, only_control}
use Rattle.tree_law.specs.State.{State, opening}
use Rattle.tree_law.specs.Steps.{accepted}
use Rattle.tree_law.specs.commands.Cpus as cpus
use Rattle.tree_law.specs.commands.Mkdir as mkdir
use Rattle.tree_law.specs.commands.Mode as mode
use Rattle.tree_law.specs.commands.Rmdir as rmdir
use Rattle.tree_law.specs.commands.Schemata as schemata
use Rattle.tree_law.specs.commands.Tasks as tasks
use Rattle.tree_law.specs.commands.Threshold as threshold
use Rattle.tree_law.specs.commands.Write as write
use Rattle.std.specs.Prelude.{All, IfSome}
use Rattle.group_tree.specs.Opening.{default_group}

module _ (P : NameId → Type 0) where
  -- a control group that has no name, or such a name
  abbrev pub IsMade : Group → Type 0
  IsMade g = is_control g.kind ≡ true → IfSome g.name P

  -- the same of every group
  abbrev pub AreMade : List Group → Type 0
  AreMade groups = All IsMade groups

  -- the control group that a command makes, if it makes one, has such a name
  abbrev pub Makes : Op → Type 0
  Makes (ops.Mkdir (Dir (Ctrl name))) = P name
  Makes op = Unit {0}

  -- the default group has no name
  pub AreMade-opening : (m : Parameters) (tasks : List ℕ) → AreMade (opening m tasks).groups
  AreMade-opening m tasks = All-push IsMade [] (default_group m) (All-nil IsMade) (λ control. tt)

  -- one more group
  AreMade-push : (groups : List Group) (g : Group) → IsMade g → AreMade groups → AreMade (groups ++ g ∷ [])
  AreMade-push groups g is named = All-push IsMade groups g named is

  -- a record that takes the place of one
  AreMade-replaced : (new : Group) (groups : List Group) → IsMade new → AreMade groups → AreMade (replaced new groups)
  AreMade-replaced new groups is named = All-map IsMade (exchanged new) groups (λ k d within. cond-both IsMade (has_gid new.gid (get_or groups k d)) new (get_or groups k d) is (named k d within))

  -- the group of a directory
  IsMade-group_at : (s : State) (dir : DirRef) (g : Group) → AreMade s.groups → group_at s dir ≡ Some g → IsMade g
  IsMade-group_at s dir g named is =
      let by = option_and_then-some (group_of s) (directory_gid s dir) g is in
      IsFound-all IsMade (has_gid by.0) s.groups g (find-found (has_gid by.0) s.groups g by.2) named

  -- the control group of a directory
  IsMade-control_at : (s : State) (dir : DirRef) (g : Group) → AreMade s.groups → control_at s dir ≡ Some g → IsMade g
  IsMade-control_at s dir g named is =
      let at = option_and_then-some only_control (group_at s dir) g is in
      either at.0 (is_control at.0.kind) (IsMade-group_at s dir at.0 named at.1) at.2
    where
      either : (x : Group) (b : Bool) → IsMade x → cond b (Some x) None ≡ Some g → IsMade g
      either x true known e = subst IsMade (let some : Some x ≡ Some g = e in same_Some x g some) known
      either x false known e = absurd (let none : None ≡ Some g = e in cc)

  -- ---- the commands

  -- a monitor group more
  AreMade-with_monitor : (m : Parameters) (s : State) (name : NameId) (parent : Option Gid) → AreMade s.groups → AreMade (mkdir.with_monitor m s name parent).groups
  AreMade-with_monitor m s name None named = named
  AreMade-with_monitor m s name (Some parent) named = AreMade-push s.groups (mkdir.new_monitor m s name parent) (λ control. absurd (let f : false ≡ true = control in cc)) named

  -- after mkdir
  pub AreMade-mkdir : (m : Parameters) (s : State) (path : PathRef) → Makes (ops.Mkdir path) → AreMade s.groups → AreMade (mkdir.accepted m s path).groups
  unfolding mkdir.accepted
  AreMade-mkdir m s (Dir (Ctrl name)) makes named = AreMade-push s.groups (mkdir.new_control m s name) (λ control. makes) named
  AreMade-mkdir m s (Dir (Mon owner name)) makes named = AreMade-with_monitor m s name (owner_gid s owner) named
  AreMade-mkdir m s path makes named = named

  -- after rmdir
  pub AreMade-rmdir : (m : Parameters) (s : State) (path : PathRef) (looks : List ℕ) → AreMade s.groups → AreMade (rmdir.accepted m s path looks).groups
  unfolding rmdir.accepted
  AreMade-rmdir m s (Dir (Ctrl name)) looks named = at (directory_gid s (Ctrl name))
    where
      at : (o : Option Gid) → AreMade (option_map_or (λ gid. rmdir.without_control m s gid (rmdir.freed s (Dir (Ctrl name))) looks) o s).groups
      at None = named
      at (Some gid) = All-filter (λ g. not (rmdir.goes_with gid g)) IsMade s.groups named
  AreMade-rmdir m s (Dir (Mon owner name)) looks named = at (directory_gid s (Mon owner name))
    where
      at : (o : Option Gid) → AreMade (option_map_or (λ gid. rmdir.without_monitor m s gid (rmdir.freed s (Dir (Mon owner name))) looks) o s).groups
      at None = named
      at (Some gid) = All-filter (λ (g : Group). not (has_gid gid g)) IsMade s.groups named
  AreMade-rmdir m s path looks named = named

  -- after a write of `schemata`
  AreMade-schemata : (s : State) (g : Group) (read : Result (List Assignment) TextFault) → IsMade g → AreMade s.groups → AreMade (schemata.accepted s g read).groups
  unfolding schemata.accepted
  AreMade-schemata s g (Err fault) known named = named
  AreMade-schemata s g (Ok all) known named = by_mode g.mode all
    where
      first : (all : List Assignment) → AreMade (schemata.with_first s g all).groups
      first [] = named
      first (a ∷ more) = AreMade-replaced (schemata.locked g a) s.groups known named

      by_mode : (way : Mode) (all : List Assignment) → AreMade (schemata.with_masks s g way all).groups
      by_mode Shareable all = AreMade-replaced (record g { masks = schemata.assigned g.masks all }) s.groups known named
      by_mode Exclusive all = AreMade-replaced (record g { masks = schemata.assigned g.masks all }) s.groups known named
      by_mode LockSetup all = first all
      by_mode Locked all = named

  -- after a write of `mode`
  AreMade-mode : (m : Parameters) (s : State) (g : Group) (text looks : List ℕ) → IsMade g → AreMade s.groups → AreMade (mode.accepted m s g text looks).groups
  unfolding mode.accepted
  AreMade-mode m s g text looks known named = cond-both (λ (x : State). AreMade x.groups) (mode.is_present g.mode text) s (mode.with_mode m s g (mode.freed g text) looks (mode.mode_in text)) named (at (mode.mode_in text))
    where
      at : (o : Option Mode) → AreMade (mode.with_mode m s g (mode.freed g text) looks o).groups
      at None = named
      at (Some way) = AreMade-replaced (mode.changed m s g way) s.groups known named

  -- after a write of `tasks`
  pub AreMade-tasks : (s : State) (g : Group) (text : List ℕ) → AreMade s.groups → AreMade (tasks.kept s g text).groups
  unfolding tasks.kept
  AreMade-tasks s g text named = cond-both (λ (x : State). AreMade x.groups) (is_closed s (controlling g.gid g.kind)) s (record s { tasks = (tasks.moves_in s g text).tasks }) named named

  -- after a write of `cpus` or `cpus_list`
  AreMade-cpus : (s : State) (g : Group) (read : Result (List ℕ) CpuFault) → AreMade s.groups → AreMade (cpus.accepted s g read).groups
  unfolding cpus.accepted
  AreMade-cpus s g (Ok numbers) named = named
  AreMade-cpus s g (Err fault) named = named

  -- after a write of `max_threshold_occupancy`
  AreMade-threshold : (m : Parameters) (s : State) (text : List ℕ) → AreMade s.groups → AreMade (threshold.accepted m s text).groups
  unfolding threshold.accepted
  AreMade-threshold m s text named = at (threshold.threshold_in m text)
    where
      at : (o : Option ℕ) → AreMade (threshold.with_threshold s o).groups
      at None = named
      at (Some n) = named

  -- what is done for the group of a directory, where it exists
  pub AreMade-option_map_or : (s : State) (o : Option Group) (f : Group → State) → ((g : Group) → o ≡ Some g → AreMade (f g).groups) → AreMade s.groups → AreMade (option_map_or f o s).groups
  AreMade-option_map_or s None f each named = named
  AreMade-option_map_or s (Some g) f each named = each g refl

  -- after any write
  pub AreMade-write : (m : Parameters) (s : State) (path : PathRef) (text looks : List ℕ) → AreMade s.groups → AreMade (write.accepted m s path text looks).groups
  unfolding write.accepted
  AreMade-write m s (File dir kinds.Cpus) text looks named = AreMade-option_map_or s (group_at s dir) (λ g. cpus.accepted s g (cpus.mask_read m text)) (λ g is. AreMade-cpus s g (cpus.mask_read m text) named) named
  AreMade-write m s (File dir kinds.CpusList) text looks named = AreMade-option_map_or s (group_at s dir) (λ g. cpus.accepted s g (cpus.list_read m text)) (λ g is. AreMade-cpus s g (cpus.list_read m text) named) named
  AreMade-write m s (File dir kinds.Tasks) text looks named = AreMade-option_map_or s (group_at s dir) (λ g. tasks.kept s g text) (λ g is. AreMade-tasks s g text named) named
  AreMade-write m s (File dir kinds.Schemata) text looks named = AreMade-option_map_or s (control_at s dir) (λ g. schemata.accepted s g (schemata.schemata_read m text)) (λ g is. AreMade-schemata s g (schemata.schemata_read m text) (IsMade-control_at s dir g named is) named) named
  AreMade-write m s (File dir kinds.Mode) text looks named = AreMade-option_map_or s (control_at s dir) (λ g. mode.accepted m s g text looks) (λ g is. AreMade-mode m s g text looks (IsMade-control_at s dir g named is) named) named
  AreMade-write m s (File dir kinds.MaxThreshold) text looks named = AreMade-threshold m s text named
  AreMade-write m s path text looks named = named
