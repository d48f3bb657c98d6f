-- Which paths exist, which directory would hold one, and whose group it is.
use Rattle.std.specs.Prelude.{Bool, true, false, find, is_some, Option, Some, None, option_map, option_and_then}
use Rattle.std.specs.Option.{option_map_or}
use Rattle.group_tree.specs.Records.{has_gid, is_control_named, is_monitor_named}
use Rattle.group_tree.specs.declared.group.Group.{Group}
use Rattle.path_names.specs.declared.dirs.DirRef.{DirRef}
use Rattle.path_names.specs.declared.dirs.DirRef.TheVariants.{Root, Info, InfoL3, InfoL3Mon, Ctrl, MonGroups, Mon, MonData, MonDomain}
use Rattle.path_names.specs.declared.dirs.Holder.{Holder}
use Rattle.path_names.specs.declared.dirs.Holder.TheVariants.{Control, Monitor}
use Rattle.path_names.specs.declared.dirs.Owner.{Owner}
use Rattle.path_names.specs.declared.dirs.Owner.TheVariants.{Default as TheDefault, Ctrl as Named}
use Rattle.path_names.specs.declared.path_ref.PathRef.{PathRef}
use Rattle.path_names.specs.declared.path_ref.PathRef.TheVariants.{Dir, File, Free, Nowhere}
use Rattle.rc_base.specs.Gids.{default_gid}
use Rattle.rc_base.specs.declared.names.Gid.{Gid}
use Rattle.tree_law.specs.State.{State}

-- the record of a group
abbrev pub group_of : State → Gid → Option Group
group_of s gid = find (has_gid gid) s.groups

-- the control group of an owner, where it exists
abbrev pub owner_gid : State → Owner → Option Gid
owner_gid s TheDefault = Some default_gid
owner_gid s (Named name) = option_map (λ (g : Group). g.gid) (find (is_control_named name) s.groups)

-- the group that a `Holder` names, where it exists
abbrev pub holder_gid : State → Holder → Option Gid
holder_gid s (Control owner) = owner_gid s owner
holder_gid s (Monitor owner name) =
    option_and_then (λ parent. option_map (λ (g : Group). g.gid) (find (is_monitor_named parent name) s.groups)) (owner_gid s owner)

-- a directory exists where its group does; those of the machine exist always
abbrev pub dir_exists : State → DirRef → Bool
dir_exists s Root = true
dir_exists s Info = true
dir_exists s InfoL3 = true
dir_exists s InfoL3Mon = true
dir_exists s (Ctrl name) = is_some (owner_gid s (Named name))
dir_exists s (MonGroups owner) = is_some (owner_gid s owner)
dir_exists s (Mon owner name) = is_some (holder_gid s (Monitor owner name))
dir_exists s (MonData holder) = is_some (holder_gid s holder)
dir_exists s (MonDomain holder domain) = is_some (holder_gid s holder)

-- a file exists where its directory does
abbrev pub is_file : State → PathRef → Bool
is_file s (File dir kind) = dir_exists s dir
is_file s path = false

-- whether a path is an existing directory
abbrev pub is_directory : State → PathRef → Bool
is_directory s (Dir dir) = dir_exists s dir
is_directory s path = false

-- whether a path is an existing file or directory
abbrev pub path_exists : State → PathRef → Bool
path_exists s (Dir dir) = dir_exists s dir
path_exists s (File dir kind) = dir_exists s dir
path_exists s (Free dir name) = false
path_exists s (Nowhere name) = false

-- ---- where a path stands

-- the directory of a control group, which for the default group is the root
abbrev pub owner_dir : Owner → DirRef
owner_dir TheDefault = Root
owner_dir (Named name) = Ctrl name

-- the directory of a group
abbrev pub holder_dir : Holder → DirRef
holder_dir (Control owner) = owner_dir owner
holder_dir (Monitor owner name) = Mon owner name

-- the directory that would hold a path; the root holds itself, and nothing holds what stands below a file
abbrev pub holding : PathRef → Option DirRef
holding (Dir Root) = Some Root
holding (Dir Info) = Some Root
holding (Dir InfoL3) = Some Info
holding (Dir InfoL3Mon) = Some Info
holding (Dir (Ctrl name)) = Some Root
holding (Dir (MonGroups owner)) = Some (owner_dir owner)
holding (Dir (Mon owner name)) = Some (MonGroups owner)
holding (Dir (MonData holder)) = Some (holder_dir holder)
holding (Dir (MonDomain holder domain)) = Some (MonData holder)
holding (File dir kind) = Some dir
holding (Free dir name) = Some dir
holding (Nowhere name) = None

-- whether the directory that would hold a path exists
abbrev pub is_held : State → PathRef → Bool
is_held s path = option_map_or (dir_exists s) (holding path) false

-- whether groups are made in a directory: in the root, and in each `mon_groups`
abbrev pub holds_groups : DirRef → Bool
holds_groups Root = true
holds_groups (MonGroups owner) = true
holds_groups dir = false

-- whether a path would stand in such a directory
abbrev pub is_in_place : PathRef → Bool
is_in_place path = option_map_or holds_groups (holding path) false

-- whether a path is the directory of a group that may be removed: any but the root
abbrev pub is_group_directory : PathRef → Bool
is_group_directory (Dir (Ctrl name)) = true
is_group_directory (Dir (Mon owner name)) = true
is_group_directory path = false

-- the group whose directory this is, where it exists
abbrev pub directory_gid : State → DirRef → Option Gid
directory_gid s Root = Some default_gid
directory_gid s (Ctrl name) = owner_gid s (Named name)
directory_gid s (Mon owner name) = holder_gid s (Monitor owner name)
directory_gid s dir = None
