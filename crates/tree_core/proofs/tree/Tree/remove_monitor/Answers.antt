use Rattle.std.proofs.Common.{ap, ◌≡◌, Some, find, refl, sym, subst, ◌∙◌}
use Rattle.std.specs.Option.{option_map}
use Rattle.group_tree.specs.Records.{has_gid, is_monitor_named}
use Rattle.group_tree.specs.declared.group.Group.{Group}
use Rattle.machine.specs.Maps.{parameters_of}
use Rattle.path_names.specs.declared.dirs.DirRef.TheVariants.{Mon}
use Rattle.path_names.specs.declared.path_ref.PathRef.TheVariants.{Dir}
use Rattle.script_ops.specs.declared.op.Op.TheVariants.{Rmdir}
use Rattle.tree_core.proofs.KeptTables.{IsKept-from_Keeps, Keeps-from_IsKept}
use Rattle.tree_core.proofs.MonitorGroups.{gid-named_monitor, has_group-named_monitor}
use Rattle.tree_core.proofs.RemovedGroups.{State-parts, table_threshold-lt}
use Rattle.tree_core.proofs.RemovedMonitor as removed
use Rattle.tree_core.specs.Found.{IsMonitor}
use Rattle.tree_core.specs.Kept.{Keeps}
use Rattle.tree_core.specs.Removals.{MayLeave}
use Rattle.tree_core.specs.Tables.{state_of, tables}
use Rattle.tree_core.specs.Values.{TreeValue, tree_of}
use Rattle.tree_law.specs.State.{State}
use Rattle.tree_law.specs.Steps.{accepted}
use Rattle.tree_core.proofs.tree.Tree.remove_monitor.Goals.{After-self}
use Rattle.tree_core.proofs.tree.Tree.remove_monitor.Goals as goal

-- the tree before, by its fields
abbrev before : After-self → TreeValue
before c =
    let t = c.self.inside in let m = parameters_of t.machine in
    tree_of m (state_of m (tables t.groups t.tasks t.cpus t.classes t.rmids t.regions) t.status t.next_gid) t.epoch

keeps : (c : After-self) → (let t = c.self.inside in Keeps (before c).machine (tables t.groups t.tasks t.cpus t.classes t.rmids t.regions) (before c).state t.epoch)
keeps c = Keeps-from_IsKept c.self.invariant

-- the group is one of its groups, and may leave it
group : (c : After-self) → IsMonitor (before c).state c.args.found
group c = subst (λ (v : TreeValue). IsMonitor v.state c.args.found) (sym c.self.view_is) c.requires.found

named : (c : After-self) → option_map (λ (g : Group). g.gid) (find (is_monitor_named c.args.found.parent c.args.found.name) (before c).state.groups) ≡ Some c.args.found.gid
named c = sym (removed.directory_gid-monitor (before c).state c.args.found.owner c.args.found.name c.args.found.parent (group c).is_owner) ∙ (group c).named

leaves : (c : After-self) → MayLeave (before c) (Dir (Mon c.args.found.owner c.args.found.name)) c.args.freed.now c.args.looks.now
leaves c = subst (λ (v : TreeValue). MayLeave v (Dir (Mon c.args.found.owner c.args.found.name)) c.args.freed.now c.args.looks.now) (sym c.self.view_is) c.requires.leaves

pub remove-requires-clause-there : goal.remove-requires-clause-there
remove-requires-clause-there c =
    let o = (goal.at.remove-requires-clause-there c).After-self in let f = c.args.found in
    has_group-named_monitor (keeps o) f.parent f.name f.gid (named o)

pub remove-requires-clause-not_default : goal.remove-requires-clause-not_default
remove-requires-clause-not_default c =
    let o = (goal.at.remove-requires-clause-not_default c).After-self in let f = c.args.found in
    gid-named_monitor (keeps o) f.parent f.name f.gid (named o)

pub free_all-requires : goal.free_all-requires
free_all-requires c =
    let o = (goal.at.free_all-requires c).After-self in let f = c.args.found in let l = leaves o in let range = c.self.inside.machine.in_range in
    record {
      may = removed.MayFree-monitor (keeps o) f.owner f.name f.parent f.gid (group o).is_owner (named o) l.accepted c.args.freed.now l.freed range;
      looks = removed.length-looks (keeps o) f.owner f.name f.parent f.gid (group o).is_owner (named o) l.accepted c.args.freed.now l.freed c.args.looks.now l.looks;
      threshold = table_threshold-lt (keeps o) (has_gid f.gid) range;
    }

pub invariant_of-self : goal.invariant_of-self
invariant_of-self c =
    let o = (goal.at.invariant_of-self c).After-self in let f = c.args.found in let l = leaves o in let t = c.self.inside in
    let after = State-parts (before o).state c.remove.new.self.groups _ c.unbind_mon.new.self c.unbind_mon.new.self c.remove_mon.new.self c.remove_mon.new.self c.free_all.new.rmids.limbo c.free_all.new.rmids.threshold t.rmids.threshold c.remove.ensures.without refl refl c.free_all.ensures.threshold in
    IsKept-from_Keeps (removed.Keeps-monitor (keeps o) f.owner f.name f.parent f.gid (group o).is_owner (named o) l.accepted c.args.freed.now l.freed c.args.looks.now c.remove.new.self c.unbind_mon.new.self c.remove_mon.new.self c.free_all.new.rmids t.machine.in_range l.looks c.remove.ensures.without c.remove.ensures.kept c.unbind_mon.ensures c.remove_mon.ensures c.free_all.ensures _ after)

pub returns : goal.returns
returns c =
    let o = (goal.at.returns c).After-self in let f = c.args.found in let l = leaves o in let t = c.self.inside in
    let after = State-parts (before o).state c.remove.new.self.groups _ c.unbind_mon.new.self c.unbind_mon.new.self c.remove_mon.new.self c.remove_mon.new.self c.free_all.new.rmids.limbo c.free_all.new.rmids.threshold t.rmids.threshold c.remove.ensures.without refl refl c.free_all.ensures.threshold in
    record {
      tree = subst (λ (v : TreeValue). tree_of (before o).machine (state_of (before o).machine (tables c.remove.new.self c.unbind_mon.new.self c.remove_mon.new.self t.classes c.free_all.new.rmids t.regions) t.status t.next_gid) t.epoch ≡ record v { state = accepted v.machine v.state (Rmdir (Dir (Mon f.owner f.name))) c.args.looks.now }) c.self.view_is
          (ap (λ (x : State). tree_of (before o).machine x t.epoch) (after ∙ removed.left_monitor-accepted (keeps o) f.owner f.name f.parent f.gid (group o).is_owner (named o) l.accepted c.args.freed.now l.freed c.args.looks.now c.remove.new.self c.unbind_mon.new.self c.remove_mon.new.self c.free_all.new.rmids t.machine.in_range l.looks c.remove.ensures.without c.remove.ensures.kept c.unbind_mon.ensures c.remove_mon.ensures c.free_all.ensures));
    }
