-- The group that a look-up by its path found.
-- (For functions and proofs: no promise of the program stands on it.)
use Rattle.std.specs.Prelude.{◌≡◌, ◌≢◌, true, false, IfSome, Option, Some, None, Result, Ok, Err, find}
use Rattle.std.specs.Option.{option_map, option_map_or}
use Rattle.group_tree.specs.Records.{is_control}
use Rattle.group_tree.specs.declared.group.Group.{Group}
use Rattle.path_names.specs.declared.dirs.DirRef.TheVariants.{Ctrl, Mon}
use Rattle.path_names.specs.declared.dirs.Owner.{Owner}
use Rattle.path_names.specs.declared.names.NameId.{NameId}
use Rattle.path_names.specs.declared.path_ref.PathRef.{PathRef}
use Rattle.path_names.specs.declared.path_ref.PathRef.TheVariants.{Dir}
use Rattle.rc_base.specs.declared.replies.Why.{Why}
use Rattle.tree_law.specs.Existing.{directory_gid, group_of, owner_gid}
use Rattle.tree_law.specs.State.{State}
use Rattle.tree_law.specs.commands.Rmdir.{against, reasons}
use Rattle.tree_core.specs.declared.control.Control as controls
use Rattle.tree_core.specs.declared.found_group.FoundGroup.{FoundGroup}
use Rattle.tree_core.specs.declared.found_group.FoundGroup.TheVariants.{Control, Monitor}
use Rattle.tree_core.specs.declared.monitor.Monitor as monitors

-- a control group of this name other than the default group, and its class, where it has one, which is not the default group's
pub record IsControl (s : State) (found : controls.Control) : Type 0 where
  pub named : directory_gid s (Ctrl found.name) ≡ Some found.gid
  pub has_class : option_map (λ (g : Group). g.class) (group_of s found.gid) ≡ Some found.class
  pub is_control_kind : option_map_or (λ (g : Group). is_control g.kind) (group_of s found.gid) false ≡ true
  pub other_gid : found.gid.0 ≢ 0
  pub other_class : IfSome found.class (λ class. class ≢ 0)

-- a monitor group of this name, and the control group that owns it
pub record IsMonitor (s : State) (found : monitors.Monitor) : Type 0 where
  pub is_owner : owner_gid s found.owner ≡ Some found.parent
  pub named : directory_gid s (Mon found.owner found.name) ≡ Some found.gid

-- the control group that was found under a name, and None where there is none
abbrev pub FindsControl : State → NameId → Option controls.Control → Type 0
FindsControl s name None = directory_gid s (Ctrl name) ≡ None
FindsControl s name (Some found) = (name ≡ found.name) × IsControl s found

-- the monitor group of an owner that was found under a name, and None where there is none
abbrev pub FindsMonitor : State → Owner → NameId → Option monitors.Monitor → Type 0
FindsMonitor s owner name None = directory_gid s (Mon owner name) ≡ None
FindsMonitor s owner name (Some found) = (owner ≡ found.owner) × (name ≡ found.name) × IsMonitor s found

-- the path of a group
abbrev pub found_path : FoundGroup → PathRef
found_path (Control found) = Dir (Ctrl found.name)
found_path (Monitor found) = Dir (Mon found.owner found.name)

-- a group of the tree
abbrev pub IsGroup : State → FoundGroup → Type 0
IsGroup s (Control found) = IsControl s found
IsGroup s (Monitor found) = IsMonitor s found

-- the group that may be removed at a path, or what is against that
abbrev pub FindsGroup : State → PathRef → Result FoundGroup Why → Type 0
FindsGroup s path (Ok found) = (path ≡ found_path found) × IsGroup s found
FindsGroup s path (Err why) = find (against s path) reasons ≡ Some why
