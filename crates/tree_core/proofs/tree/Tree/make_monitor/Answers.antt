use Rattle.std.proofs.Common.{◌≡◌, ◌+◌, ◌≤◌, [], ◌∷◌, ◌++◌, None, Some, false, find, refl, sym, subst, ap, ◌∙◌}
use Rattle.group_tree.specs.Lists.{has_group}
use Rattle.group_tree.specs.declared.group.Group.{Group}
use Rattle.hw_ids.specs.MonitoringIds.{MonitoringIds}
use Rattle.machine.specs.Maps.{parameters_of}
use Rattle.path_names.specs.declared.dirs.DirRef.TheVariants.{Mon}
use Rattle.path_names.specs.declared.dirs.Owner.{Owner}
use Rattle.path_names.specs.declared.names.NameId.{NameId}
use Rattle.path_names.specs.declared.path_ref.PathRef.TheVariants.{Dir}
use Rattle.rc_base.specs.declared.names.Gid.{Gid}
use Rattle.rc_base.specs.declared.replies.Reply.TheVariants as replies
use Rattle.tree_core.proofs.Changes.{MakesUnless-made, MakesUnless-refused}
use Rattle.tree_core.proofs.KeptTables.{IsKept-from_Keeps, Keeps-from_IsKept, Keeps-of, State-same}
use Rattle.tree_core.proofs.MonitorCreation as creation
use Rattle.tree_core.proofs.Room.{has_group-next_gid, length-groups_lt}
use Rattle.tree_core.specs.Changes.{MakesGroup}
use Rattle.tree_core.specs.Kept.{Keeps}
use Rattle.tree_core.specs.Places.{place_reasons}
use Rattle.tree_core.specs.Tables.{state_of, tables}
use Rattle.tree_core.specs.Values.{TreeValue, tree_of}
use Rattle.tree_law.specs.Existing.{owner_gid}
use Rattle.tree_law.specs.Places.{is_closed}
use Rattle.tree_law.specs.State.{State}
use Rattle.tree_law.specs.commands.Mkdir.{against}
use Rattle.tree_core.proofs.tree.Tree.make_monitor.Goals.{After-take_rmid}
use Rattle.tree_core.proofs.tree.Tree.make_monitor.Goals as goal

pub unreachable-requires : goal.unreachable-requires
unreachable-requires c = creation.owner_gid-place c.args.self.now.machine c.args.self.now.state c.args.owner c.args.name c.requires.place (sym c.in_default.ensures)

pub returns-then-is_closed_control : goal.returns-then-is_closed_control
returns-then-is_closed_control c =
    let t = c.self.inside in
    let keeps = Keeps-of (tables t.groups t.tasks t.cpus t.classes t.rmids t.regions) c.self.view_is c.self.invariant in
    let closed = creation.IsRefused-closed keeps c.args.owner c.args.name c.in-Some.parent c.requires.place (sym c.in-Some.ensures) (sym c.is_closed_control.ensures ∙ c.if-is_closed_control.true) in
    MakesUnless-refused closed.reason closed.is refl (c.refused.ensures ∙ closed.reply) refl

pub insert-requires-clause-fresh : goal.insert-requires-clause-fresh
insert-requires-clause-fresh c = ap (λ (g : Group). has_group g.gid c.self.inside.groups.groups) c.monitor_group-group.ensures ∙ has_group-next_gid (Keeps-from_IsKept c.self.invariant)

pub insert-requires-clause-place : goal.insert-requires-clause-place
insert-requires-clause-place c = length-groups_lt (Keeps-from_IsKept c.self.invariant) c.self.inside.machine.in_range

-- the tree before, by its fields
abbrev before : After-take_rmid → TreeValue
before c =
    let t = c.self.inside in let m = parameters_of t.machine in
    tree_of m (state_of m (tables t.groups t.tasks t.cpus t.classes t.rmids t.regions) t.status t.next_gid) t.epoch

keeps : (c : After-take_rmid) → (let t = c.self.inside in Keeps (before c).machine (tables t.groups t.tasks t.cpus t.classes t.rmids t.regions) (before c).state t.epoch)
keeps c = Keeps-from_IsKept c.self.invariant

-- a place for a monitor group, whose parent is there and is not closed
abbrev IsPlace : TreeValue → Owner → NameId → Gid → Type 0
IsPlace v owner name parent = (find (against v.machine v.state (Dir (Mon owner name))) place_reasons ≡ None) × (owner_gid v.state owner ≡ Some parent) × (is_closed v.state parent ≡ false)

place : (c : After-take_rmid) → IsPlace (before c) c.args.owner c.args.name c.in-Some.parent
place c = subst (λ (v : TreeValue). IsPlace v c.args.owner c.args.name c.in-Some.parent) (sym c.self.view_is) (c.requires.place, sym c.in-Some.ensures, sym c.is_closed_control.ensures ∙ c.if-is_closed_control.false)

pub invariant_of-self : goal.invariant_of-self
invariant_of-self c =
    let o = (goal.at.invariant_of-self c).After-take_rmid in let t = c.self.inside in let s = (before o).state in let p = place o in
    let rmid = c.in-Ok.rmid in let rmids = c.take_rmid.new.rmids in
    let new = creation.monitor_record (keeps o) c.args.owner c.args.name c.in-Some.parent p.0 p.1 p.2 rmid rmids c.in-Ok.ensures in
    let after : c.insert.new.self.groups ≡ t.groups.groups ++ new ∷ [] = c.insert.ensures.last ∙ ap (λ (g : Group). t.groups.groups ++ g ∷ []) c.monitor_group-group.ensures in
    let same = State-same (record s { next_gid = s.next_gid + 1 }) c.insert.new.self.groups (t.groups.groups ++ new ∷ []) rmids.limbo t.rmids.limbo rmids.threshold t.rmids.threshold after (ap (λ (r : MonitoringIds). r.limbo) c.in-Ok.ensures.taken) (ap (λ (r : MonitoringIds). r.threshold) c.in-Ok.ensures.taken) in
    let gids : t.next_gid ≤ t.epoch = subst (λ (v : TreeValue). v.state.next_gid ≤ v.epoch) (sym c.self.view_is) c.requires.gids in
    IsKept-from_Keeps (creation.Keeps-with_monitor (keeps o) c.args.owner c.args.name c.in-Some.parent p.0 p.1 p.2 rmid rmids c.in-Ok.ensures c.insert.new.self _ t.machine.in_range after c.insert.ensures.kept gids same)

pub returns-in-Ok : goal.returns-in-Ok
returns-in-Ok c =
    let o = (goal.at.returns-in-Ok c).After-take_rmid in let t = c.self.inside in let m = (before o).machine in let s = (before o).state in let p = place o in
    let path = Dir (Mon c.args.owner c.args.name) in let rmid = c.in-Ok.rmid in let rmids = c.take_rmid.new.rmids in
    let new = creation.monitor_record (keeps o) c.args.owner c.args.name c.in-Some.parent p.0 p.1 p.2 rmid rmids c.in-Ok.ensures in
    let after : c.insert.new.self.groups ≡ t.groups.groups ++ new ∷ [] = c.insert.ensures.last ∙ ap (λ (g : Group). t.groups.groups ++ g ∷ []) c.monitor_group-group.ensures in
    let same = State-same (record s { next_gid = s.next_gid + 1 }) c.insert.new.self.groups (t.groups.groups ++ new ∷ []) rmids.limbo t.rmids.limbo rmids.threshold t.rmids.threshold after (ap (λ (r : MonitoringIds). r.limbo) c.in-Ok.ensures.taken) (ap (λ (r : MonitoringIds). r.threshold) c.in-Ok.ensures.taken) in
    subst (λ (v : TreeValue). MakesGroup v path (tree_of m (state_of m (tables c.insert.new.self t.tasks t.cpus t.classes rmids t.regions) t.status (t.next_gid + 1)) t.epoch) replies.Ok) c.self.view_is
    (MakesUnless-made (creation.refusal-none (keeps o) c.args.owner c.args.name c.in-Some.parent p.0 p.1 p.2 rmid rmids c.in-Ok.ensures)
    (ap (λ (x : State). tree_of m x t.epoch) (same ∙ creation.with_monitor-accepted (keeps o) c.args.owner c.args.name c.in-Some.parent p.0 p.1 p.2 rmid rmids c.in-Ok.ensures [])) refl refl)

pub returns-in-Err : goal.returns-in-Err
returns-in-Err c =
    let o = (goal.at.returns-in-Err c).After-take_rmid in let t = c.self.inside in let m = (before o).machine in let s = (before o).state in let p = place o in
    let path = Dir (Mon c.args.owner c.args.name) in let rmids = c.take_rmid.new.rmids in
    let lack = creation.IsRefused-no_rmid (keeps o) c.args.owner c.args.name c.in-Some.parent p.0 p.1 p.2 rmids c.in-Err.reply c.in-Err.ensures in
    let same = State-same s t.groups.groups t.groups.groups rmids.limbo t.rmids.limbo rmids.threshold t.rmids.threshold refl (ap (λ (r : MonitoringIds). r.limbo) c.in-Err.ensures.0) (ap (λ (r : MonitoringIds). r.threshold) c.in-Err.ensures.0) in
    subst (λ (v : TreeValue). MakesGroup v path (tree_of m (state_of m (tables t.groups t.tasks t.cpus t.classes rmids t.regions) t.status t.next_gid) t.epoch) c.in-Err.reply) c.self.view_is
    (MakesUnless-refused lack.reason lack.is (ap (λ (x : State). tree_of m x t.epoch) same) lack.reply refl)
