-- Groups that are taken out of the tree.
-- (For functions and proofs: no promise of the program stands on it.)
use Rattle.std.specs.Prelude.{◌≡◌, ℕ, not, if◌then◌else◌, List, length, Option, Some, None, filter, slice_index_or}
use Rattle.group_tree.specs.Lists.{without}
use Rattle.group_tree.specs.Records.{blank, is_monitor_of}
use Rattle.group_tree.specs.declared.group.Group.{Group}
use Rattle.path_names.specs.declared.path_ref.PathRef.{PathRef}
use Rattle.rc_base.specs.declared.names.Gid.{Gid}
use Rattle.script_ops.specs.declared.op.Op.TheVariants.{Rmdir}
use Rattle.tree_core.specs.Values.{TreeValue}
use Rattle.tree_law.specs.Steps.{needs, refusal}
use Rattle.tree_law.specs.commands.Rmdir as rmdir

-- the groups but the monitor groups of a control group
abbrev pub off_monitors : Gid → List Group → List Group
off_monitors control groups = filter (λ (g : Group). not (is_monitor_of control g.kind)) groups

-- the gid of a group, where it is a monitor group of this control group
abbrev pub monitor_gid : Gid → Group → Option Gid
monitor_gid control g = if is_monitor_of control g.kind then Some g.gid else None

-- the groups without this one
abbrev pub without_some : Option Gid → List Group → List Group
without_some None groups = groups
without_some (Some gid) groups = without gid groups

-- the groups without that at a place, where it is a monitor group of this control group
abbrev pub without_if_monitor : Gid → ℕ → List Group → List Group
without_if_monitor control i groups = without_some (monitor_gid control (slice_index_or groups i blank)) groups

-- nothing is against removing a path, which frees these RMIDs, and there is a look for each count that it needs
pub record MayLeave (v : TreeValue) (path : PathRef) (rmids counts : List ℕ) : Type 0 where
  pub accepted : refusal v.machine v.state (Rmdir path) ≡ None
  pub freed : rmids ≡ rmdir.freed v.state path
  pub looks : length counts ≡ length (needs v.machine v.state (Rmdir path))
