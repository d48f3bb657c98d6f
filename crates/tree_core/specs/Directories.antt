-- The directories of groups that come and go.
-- (For functions and proofs: no promise of the program stands on it.)
use Rattle.path_names.specs.declared.dirs.DirRef.TheVariants.{Ctrl, Mon}
use Rattle.path_names.specs.declared.path_ref.PathRef.{PathRef}
use Rattle.path_names.specs.declared.path_ref.PathRef.TheVariants.{Dir}
use Rattle.tree_core.specs.declared.group_dir.GroupDir.{GroupDir}
use Rattle.tree_core.specs.declared.group_dir.GroupDir.TheVariants.{Control, Monitor}

-- the path of such a directory
abbrev pub path_of : GroupDir → PathRef
path_of (Control name) = Dir (Ctrl name)
path_of (Monitor owner name) = Dir (Mon owner name)
