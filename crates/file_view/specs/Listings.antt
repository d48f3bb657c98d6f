-- The listings of directories.
-- (Kernel documentation, "Resource alloc and monitor groups".)
use Rattle.std.specs.Prelude.{ℕ, Bool, ◌&&◌, List, [], ◌++◌, map, filter, is_some, Option, Some, None, if◌then◌else◌}
use Rattle.std.specs.Option.{option_map_or}
use Rattle.file_view.specs.Lines.{on_line, on_lines}
use Rattle.group_tree.specs.Records.{is_control, is_monitor_of}
use Rattle.group_tree.specs.declared.group.Group.{Group}
use Rattle.machine.specs.declared.parameters.Parameters.{Parameters}
use Rattle.path_names.specs.PathTable.{Entry, fixed_entries}
use Rattle.path_names.specs.PathTexts.{name_in}
use Rattle.path_names.specs.declared.dirs.DirRef.{DirRef}
use Rattle.path_names.specs.declared.dirs.DirRef.TheVariants.{MonGroups, Root}
use Rattle.rc_base.specs.declared.names.Gid.{Gid}
use Rattle.tree_law.specs.Existing.{owner_gid}
use Rattle.tree_law.specs.State.{State}

-- the names of a directory's fixed entries
abbrev pub fixed_names : Parameters → DirRef → List (List ℕ)
fixed_names m dir = map (λ (e : Entry). e.0) (fixed_entries m.domains dir)

-- whether a group stands in the directory of groups of this parent: a monitor group in its control group's `mon_groups`, and
-- a control group but the default group in the root, where no parent is named
abbrev pub is_listed : Option Gid → Group → Bool
is_listed None g = is_control g.kind && is_some g.name
is_listed (Some gid) g = is_monitor_of gid g.kind

-- the name of a group's directory
abbrev pub group_name : List (List ℕ) → Group → List ℕ
group_name names g = option_map_or (name_in names) g.name []

-- (For proofs.) the line of a group, and nothing where it does not stand in the directory
abbrev pub group_line : List (List ℕ) → Option Gid → Group → List ℕ
group_line names parent g = if is_listed parent g then on_line (group_name names g) else []

-- the names of the groups that stand in the directory of groups of this parent, in order of creation
abbrev pub names_in : List (List ℕ) → Option Gid → List Group → List (List ℕ)
names_in names parent groups = map (group_name names) (filter (is_listed parent) groups)

-- the names of the monitor groups of a control group, where it exists
abbrev pub monitors_in : State → List (List ℕ) → Option Gid → List (List ℕ)
monitors_in s names None = []
monitors_in s names (Some gid) = names_in names (Some gid) s.groups

-- the names of the groups whose directories stand in a directory: the control groups but the default group in the root, and
-- the monitor groups of a control group in its `mon_groups`
abbrev pub groups_in : State → List (List ℕ) → DirRef → List (List ℕ)
groups_in s names Root = names_in names None s.groups
groups_in s names (MonGroups owner) = monitors_in s names (owner_gid s owner)
groups_in s names dir = []

-- the text of a listing: the fixed entries, and then the groups, each on its line
unfoldable pub list_text : Parameters → State → List (List ℕ) → DirRef → List ℕ
list_text m s names dir = on_lines (fixed_names m dir) ++ on_lines (groups_in s names dir)
