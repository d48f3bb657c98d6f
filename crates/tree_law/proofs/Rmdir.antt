-- Each rmdir keeps a sound tree.
use Rattle.std.proofs.Common.{◌≡◌, ℕ, Bool, true, false, ◌&&◌, List, [], find, Option, None, Some, refl, sym, ap, ◌∙◌}
use Rattle.std.specs.Option.{option_map, option_map_or}
use Rattle.group_tree.specs.Records.{has_name, is_control, is_control_named, is_monitor_named, is_monitor_of}
use Rattle.group_tree.specs.declared.group.Group.{Group}
use Rattle.group_tree.specs.declared.group_kind.GroupKind.{GroupKind}
use Rattle.group_tree.specs.declared.group_kind.GroupKind.TheVariants.{Control, Monitor}
use Rattle.lists.proofs.Tests.{find-found}
use Rattle.lists.proofs.Options.{option_and_then-some, option_map-some}
use Rattle.machine.specs.declared.parameters.Parameters.{Parameters}
use Rattle.path_names.specs.declared.dirs.DirRef.TheVariants.{Ctrl, Mon}
use Rattle.path_names.specs.declared.dirs.Owner.{Owner}
use Rattle.path_names.specs.declared.dirs.Owner.TheVariants.{Ctrl as Named}
use Rattle.path_names.specs.declared.names.NameId.{NameId}
use Rattle.path_names.specs.declared.path_ref.PathRef.{PathRef}
use Rattle.path_names.specs.declared.path_ref.PathRef.TheVariants.{Dir}
use Rattle.rc_base.specs.declared.names.Gid.{Gid}
use Rattle.tree_law.proofs.GroupKinds.{is_control-counted, gid-not_default}
use Rattle.tree_law.proofs.RemovedControl.{without_control-sound}
use Rattle.tree_law.proofs.RemovedMonitor.{without_monitor-sound}
use Rattle.tree_law.specs.Existing.{directory_gid, group_of, owner_gid}
use Rattle.tree_law.specs.Freeing.{rmids_of, rmids_with}
use Rattle.tree_law.specs.Sound.{IsDefault, IsSound}
use Rattle.tree_law.specs.State.{State}
use Rattle.tree_law.specs.commands.Rmdir as rmdir

-- the default group has no name
is_control_named-default : (name : NameId) (c : Group) → is_control_named name c ≡ true → IsDefault c → ⊥
is_control_named-default name c named d = at (is_control c.kind) (ap (λ (o : Option NameId). is_control c.kind && has_name name o) (sym d.name) ∙ named)
  where
    at : (b : Bool) → (b && false) ≡ true → ⊥
    at true e = let f : false ≡ true = e in cc
    at false e = let f : false ≡ true = e in cc

-- a monitor group is no control group
is_control-monitor : (parent : Gid) (kind : GroupKind) → is_monitor_of parent kind ≡ true → is_control kind ≡ false
is_control-monitor parent Control e = absurd (let f : false ≡ true = e in cc)
is_control-monitor parent (Monitor p) e = refl

-- where both tests pass, the first does
and-left : (a b : Bool) → (a && b) ≡ true → a ≡ true
and-left true b e = refl
and-left false b e = absurd (let f : false ≡ true = e in cc)

-- the control group of a name, removed, leaves a sound tree
without_control-sound_named : (m : Parameters) (s : State) (name : NameId) (gid : Gid) (looks : List ℕ) → IsSound m s → owner_gid s (Named name) ≡ Some gid → IsSound m (rmdir.without_control m s gid (rmids_with s gid) looks)
without_control-sound_named m s name gid looks sound is =
    let c = option_map-some (λ (g : Group). g.gid) (find (is_control_named name) s.groups) gid is in
    let f = find-found (is_control_named name) s.groups c.0 c.1 in
    without_control-sound m s gid c.0 (is_control_named name) sound f c.2 (and-left (is_control c.0.kind) (has_name name c.0.name) f.passes)
    (gid-not_default s.groups s.next_gid (is_control_named name) c.0 gid sound.named f c.2 (is_control_named-default name c.0 f.passes)) looks

-- the monitor group of a name, removed, leaves a sound tree
without_monitor-sound_named : (m : Parameters) (s : State) (owner : Owner) (name : NameId) (gid : Gid) (looks : List ℕ) → IsSound m s → directory_gid s (Mon owner name) ≡ Some gid
    → IsSound m (rmdir.without_monitor m s gid (option_map_or rmids_of (group_of s gid) []) looks)
without_monitor-sound_named m s owner name gid looks sound is =
    let parent = option_and_then-some (λ (p : Gid). option_map (λ (g : Group). g.gid) (find (is_monitor_named p name) s.groups)) (owner_gid s owner) gid is in
    let c = option_map-some (λ (g : Group). g.gid) (find (is_monitor_named parent.0 name) s.groups) gid parent.2 in
    let f = find-found (is_monitor_named parent.0 name) s.groups c.0 c.1 in
    let monitor : is_control c.0.kind ≡ false = is_control-monitor parent.0 c.0.kind (and-left (is_monitor_of parent.0 c.0.kind) (has_name name c.0.name) f.passes) in
    without_monitor-sound m s gid c.0 (is_monitor_named parent.0 name) sound f c.2 monitor
    (gid-not_default s.groups s.next_gid (is_monitor_named parent.0 name) c.0 gid sound.named f c.2 (λ d. let g : true ≡ false = sym (is_control-counted c.0 d.counted) ∙ monitor in cc)) looks

-- an accepted rmdir keeps a sound tree
pub rmdir-sound : (m : Parameters) (s : State) (path : PathRef) (looks : List ℕ) → IsSound m s → IsSound m (rmdir.accepted m s path looks)
unfolding rmdir.accepted rmdir.freed
rmdir-sound m s (Dir (Ctrl name)) looks sound = at (directory_gid s (Ctrl name)) refl
  where
    at : (o : Option Gid) → directory_gid s (Ctrl name) ≡ o → IsSound m (option_map_or (λ gid. rmdir.without_control m s gid (option_map_or (rmids_with s) o []) looks) o s)
    at None is = sound
    at (Some gid) is = without_control-sound_named m s name gid looks sound is
rmdir-sound m s (Dir (Mon owner name)) looks sound = at (directory_gid s (Mon owner name)) refl
  where
    at : (o : Option Gid) → directory_gid s (Mon owner name) ≡ o → IsSound m (option_map_or (λ gid. rmdir.without_monitor m s gid (option_map_or (λ i. option_map_or rmids_of (group_of s i) []) o []) looks) o s)
    at None is = sound
    at (Some gid) is = without_monitor-sound_named m s owner name gid looks sound is
rmdir-sound m s path looks sound = sound
