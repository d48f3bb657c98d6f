-- What may be removed, and the RMIDs that go with it.
use Rattle.std.proofs.Common.{◌≡◌, not, cond, is_some, Option, None, Some, [], ap}
use Rattle.std.specs.Option.{option_map_or}
use Rattle.machine.specs.declared.parameters.Parameters.{Parameters}
use Rattle.path_names.specs.declared.dirs.DirRef.TheVariants.{Ctrl, Mon}
use Rattle.path_names.specs.declared.path_ref.PathRef.TheVariants.{Dir}
use Rattle.rc_base.specs.declared.names.Gid.{Gid}
use Rattle.rc_base.specs.declared.replies.Why.TheVariants.{NoSuchPath}
use Rattle.script_ops.specs.declared.op.Op.TheVariants.{Rmdir}
use Rattle.tree_core.proofs.Outcomes.{refusal-rmdir_none}
use Rattle.tree_core.specs.Found.{IsControl, IsGroup, IsMonitor, found_path}
use Rattle.tree_core.specs.declared.control.Control as controls
use Rattle.tree_core.specs.declared.found_group.FoundGroup.{FoundGroup}
use Rattle.tree_core.specs.declared.found_group.FoundGroup.TheVariants.{Control, Monitor}
use Rattle.tree_core.specs.declared.monitor.Monitor as monitors
use Rattle.tree_law.specs.Existing.{group_of}
use Rattle.tree_law.specs.Freeing.{rmids_of, rmids_with}
use Rattle.tree_law.specs.State.{State}
use Rattle.tree_law.specs.Steps.{refusal}
use Rattle.tree_law.specs.commands.Rmdir as rmdir

-- nothing is against removing a group that was found
pub refusal-found : (m : Parameters) (s : State) (found : FoundGroup) → IsGroup s found → refusal m s (Rmdir (found_path found)) ≡ None
refusal-found m s (Control group) control = refusal-rmdir_none m s (Dir (Ctrl group.name)) (ap (λ (gid : Option Gid). cond (not (is_some gid)) (Some NoSuchPath) None) control.named)
refusal-found m s (Monitor group) monitor = refusal-rmdir_none m s (Dir (Mon group.owner group.name)) (ap (λ (gid : Option Gid). cond (not (is_some gid)) (Some NoSuchPath) None) monitor.named)

-- the RMIDs that go with a control group
pub freed-control : (s : State) (group : controls.Control) → IsControl s group → rmdir.freed s (Dir (Ctrl group.name)) ≡ rmids_with s group.gid
unfolding rmdir.freed
freed-control s group control = ap (λ (gid : Option Gid). option_map_or (rmids_with s) gid []) control.named

-- and with a monitor group
pub freed-monitor : (s : State) (group : monitors.Monitor) → IsMonitor s group → rmdir.freed s (Dir (Mon group.owner group.name)) ≡ option_map_or rmids_of (group_of s group.gid) []
unfolding rmdir.freed
freed-monitor s group monitor = ap (λ (gid : Option Gid). option_map_or (λ gid. option_map_or rmids_of (group_of s gid) []) gid []) monitor.named
