use Rattle.std.proofs.Common.{◌≡◌, List, take, refl, sym, subst, ap, ◌∙◌}
use Rattle.group_tree.specs.Lists.{has_group, without}
use Rattle.group_tree.specs.declared.group.Group.{Group}
use Rattle.machine.specs.Maps.{parameters_of}
use Rattle.path_names.specs.declared.dirs.DirRef.TheVariants.{Ctrl}
use Rattle.path_names.specs.declared.path_ref.PathRef.TheVariants.{Dir}
use Rattle.script_ops.specs.declared.op.Op.TheVariants.{Rmdir}
use Rattle.tree_core.proofs.ControlGroups.{ControlAt-found}
use Rattle.tree_core.proofs.KeptTables.{IsKept-from_Keeps, Keeps-from_IsKept, MayGive-found}
use Rattle.tree_core.proofs.RemovedControl as removed
use Rattle.tree_core.proofs.RemovedGroups.{State-parts, table_threshold-lt}
use Rattle.tree_core.specs.Found.{IsControl}
use Rattle.tree_core.specs.Kept.{Keeps}
use Rattle.tree_core.specs.Removals.{MayLeave}
use Rattle.tree_core.specs.Tables.{state_of, tables}
use Rattle.tree_core.specs.Values.{TreeValue, tree_of}
use Rattle.tree_law.specs.State.{State}
use Rattle.tree_law.specs.Steps.{accepted}
use Rattle.tree_law.specs.commands.Rmdir as rmdir
use Rattle.tree_core.proofs.tree.Tree.remove_control.Goals.{After-self}
use Rattle.tree_core.proofs.tree.Tree.remove_control.Goals as goal

-- the tree before, by its fields
abbrev before : After-self → TreeValue
before c =
    let t = c.self.inside in let m = parameters_of t.machine in
    tree_of m (state_of m (tables t.groups t.tasks t.cpus t.classes t.rmids t.regions) t.status t.next_gid) t.epoch

keeps : (c : After-self) → (let t = c.self.inside in Keeps (before c).machine (tables t.groups t.tasks t.cpus t.classes t.rmids t.regions) (before c).state t.epoch)
keeps c = Keeps-from_IsKept c.self.invariant

-- the group is one of its groups, and may leave it
group : (c : After-self) → IsControl (before c).state c.args.found
group c = subst (λ (v : TreeValue). IsControl v.state c.args.found) (sym c.self.view_is) c.requires.found

leaves : (c : After-self) → MayLeave (before c) (Dir (Ctrl c.args.found.name)) c.args.freed.now c.args.looks.now
leaves c = subst (λ (v : TreeValue). MayLeave v (Dir (Ctrl c.args.found.name)) c.args.freed.now c.args.looks.now) (sym c.self.view_is) c.requires.leaves

pub remove_monitors-requires : goal.remove_monitors-requires
remove_monitors-requires c =
    let o = (goal.at.remove_monitors-requires c).After-self in let f = c.args.found in let l = leaves o in
    record { default = removed.not_default-monitor (keeps o) f.name f (group o).named (group o) l.accepted c.args.freed.now l.freed }

pub remove-requires-clause-there : goal.remove-requires-clause-there
remove-requires-clause-there c =
    let o = (goal.at.remove-requires-clause-there c).After-self in let f = c.args.found in let l = leaves o in
    ap (has_group f.gid) c.remove_monitors.ensures.groups ∙ removed.has_group-off_monitors (keeps o) f.name f (group o).named (group o) l.accepted c.args.freed.now l.freed

pub give-requires : goal.give-requires
give-requires c =
    let o = (goal.at.give-requires c).After-self in let f = c.args.found in
    let at = ControlAt-found (before o).state f (group o) in
    record { may = MayGive-found (keeps o) f.gid at.group at.there f.class at.class (group o).other_class }

pub free_all-requires : goal.free_all-requires
free_all-requires c =
    let o = (goal.at.free_all-requires c).After-self in let f = c.args.found in let l = leaves o in let range = c.self.inside.machine.in_range in
    record {
      may = removed.MayFree-control (keeps o) f.name f (group o).named (group o) l.accepted c.args.freed.now l.freed range;
      looks = removed.length-looks (keeps o) f.name f (group o).named (group o) l.accepted c.args.freed.now l.freed c.args.looks.now l.looks;
      threshold = table_threshold-lt (keeps o) (λ g. rmdir.goes_with f.gid g) range;
    }

pub invariant_of-self : goal.invariant_of-self
invariant_of-self c =
    let o = (goal.at.invariant_of-self c).After-self in let f = c.args.found in let l = leaves o in let t = c.self.inside in
    let groups = c.remove.ensures.without ∙ ap (λ (gs : List Group). without f.gid gs) c.remove_monitors.ensures.groups in
    let shareable = c.remove.ensures.kept ∙ c.remove_monitors.ensures.shareable in
    let after = State-parts (record (before o).state { regions = take (before o).machine.domains c.remove-2.new.self.places; locks = c.remove-2.new.self.placed }) c.remove.new.self.groups _ c.unbind_ctrl.new.self c.unbind_ctrl.new.self c.remove_ctrl.new.self c.remove_ctrl.new.self c.free_all.new.rmids.limbo c.free_all.new.rmids.threshold t.rmids.threshold (groups ∙ removed.without-off_monitors f.gid t.groups.groups) refl refl c.free_all.ensures.threshold in
    IsKept-from_Keeps (removed.Keeps-control (keeps o) f.name f (group o).named (group o) l.accepted c.args.freed.now l.freed c.args.looks.now c.remove.new.self c.unbind_ctrl.new.self c.remove_ctrl.new.self c.give.new.classes c.free_all.new.rmids c.remove-2.new.self t.machine.in_range l.looks groups shareable c.unbind_ctrl.ensures c.remove_ctrl.ensures c.give.ensures c.free_all.ensures c.remove-2.ensures _ after)

pub returns : goal.returns
returns c =
    let o = (goal.at.returns c).After-self in let f = c.args.found in let l = leaves o in let t = c.self.inside in
    let groups = c.remove.ensures.without ∙ ap (λ (gs : List Group). without f.gid gs) c.remove_monitors.ensures.groups in
    let shareable = c.remove.ensures.kept ∙ c.remove_monitors.ensures.shareable in
    let after = State-parts (record (before o).state { regions = take (before o).machine.domains c.remove-2.new.self.places; locks = c.remove-2.new.self.placed }) c.remove.new.self.groups _ c.unbind_ctrl.new.self c.unbind_ctrl.new.self c.remove_ctrl.new.self c.remove_ctrl.new.self c.free_all.new.rmids.limbo c.free_all.new.rmids.threshold t.rmids.threshold (groups ∙ removed.without-off_monitors f.gid t.groups.groups) refl refl c.free_all.ensures.threshold in
    record {
      tree = subst (λ (v : TreeValue). tree_of (before o).machine (state_of (before o).machine (tables c.remove.new.self c.unbind_ctrl.new.self c.remove_ctrl.new.self c.give.new.classes c.free_all.new.rmids c.remove-2.new.self) t.status t.next_gid) t.epoch ≡ record v { state = accepted v.machine v.state (Rmdir (Dir (Ctrl f.name))) c.args.looks.now }) c.self.view_is
          (ap (λ (x : State). tree_of (before o).machine x t.epoch) (after ∙ removed.left_control-accepted (keeps o) f.name f (group o).named (group o) l.accepted c.args.freed.now l.freed c.args.looks.now c.remove.new.self c.unbind_ctrl.new.self c.remove_ctrl.new.self c.give.new.classes c.free_all.new.rmids c.remove-2.new.self t.machine.in_range l.looks groups shareable c.unbind_ctrl.ensures c.remove_ctrl.ensures c.give.ensures c.free_all.ensures c.remove-2.ensures));
    }
