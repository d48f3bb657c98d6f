use Rattle.std.proofs.Common.{◌≡◌, ◌+◌, ◌≤◌, None, find, refl, sym, subst, ap, ◌∙◌, ◌++◌, ◌∷◌, []}
use Rattle.group_tree.specs.Lists.{has_group}
use Rattle.group_tree.specs.declared.group.Group.{Group}
use Rattle.hw_ids.specs.MonitoringIds.{MonitoringIds}
use Rattle.machine.specs.Maps.{parameters_of}
use Rattle.path_names.specs.declared.dirs.DirRef.TheVariants.{Ctrl}
use Rattle.path_names.specs.declared.path_ref.PathRef.TheVariants.{Dir}
use Rattle.rc_base.specs.declared.replies.Reply.TheVariants as replies
use Rattle.tree_core.proofs.Changes.{MakesUnless-made, MakesUnless-refused}
use Rattle.tree_core.proofs.Creation as creation
use Rattle.tree_core.proofs.KeptTables.{IsKept-from_Keeps, Keeps-from_IsKept, State-same, contains-default_class}
use Rattle.tree_core.proofs.Refusals.{IsRefused}
use Rattle.tree_core.proofs.Returns.{RmidsStay-same}
use Rattle.tree_core.proofs.Room.{has_group-next_gid, length-groups_lt}
use Rattle.tree_core.specs.Changes.{MakesGroup}
use Rattle.tree_core.specs.Kept.{IsKept}
use Rattle.tree_core.specs.Places.{place_reasons}
use Rattle.tree_core.specs.Tables.{state_of, tables}
use Rattle.tree_core.specs.Values.{TreeValue, tree_of}
use Rattle.tree_law.specs.Space.{full_domain}
use Rattle.tree_law.specs.State.{State}
use Rattle.tree_law.specs.commands.Mkdir.{against, initial_masks}
use Rattle.tree_core.proofs.tree.Tree.make_with_masks.Goals as goal

pub take_ids-requires : goal.take_ids-requires
take_ids-requires c = record { default_class = contains-default_class (Keeps-from_IsKept c.self.invariant) }

pub insert-requires-clause-fresh : goal.insert-requires-clause-fresh
insert-requires-clause-fresh c =
    ap (λ (g : Group). has_group g.gid c.self.inside.groups.groups) c.control_group-group.ensures ∙ has_group-next_gid (Keeps-from_IsKept c.self.invariant)

pub insert-requires-clause-place : goal.insert-requires-clause-place
insert-requires-clause-place c = length-groups_lt (Keeps-from_IsKept c.self.invariant) c.self.inside.machine.in_range

pub invariant_of-self : goal.invariant_of-self
invariant_of-self c =
    let t = c.self.inside in
    let m = parameters_of t.machine in
    let s = state_of m (tables t.groups t.tasks t.cpus t.classes t.rmids t.regions) t.status t.next_gid in
    let keeps = Keeps-from_IsKept c.self.invariant in
    let path = Dir (Ctrl c.args.name) in
    let place : find (against m s path) place_reasons ≡ None = subst (λ (v : TreeValue). find (against v.machine v.state path) place_reasons ≡ None) (sym c.self.view_is) c.requires.place in
    let space : full_domain m s ≡ None = subst (λ (v : TreeValue). full_domain v.machine v.state ≡ None) (sym c.self.view_is) c.requires.space in
    let masks : c.args.masks ≡ initial_masks m s = subst (λ (v : TreeValue). c.args.masks ≡ initial_masks v.machine v.state) (sym c.self.view_is) c.requires.masks in
    let gids : t.next_gid ≤ t.epoch = subst (λ (v : TreeValue). v.state.next_gid ≤ v.epoch) (sym c.self.view_is) c.requires.gids in
    let ids = c.in-Ok.ids in
    let new = creation.control_record keeps c.args.name ids.class ids.rmid c.take_ids.new.classes c.take_ids.new.rmids place space c.in-Ok.ensures.0 c.in-Ok.ensures.1 c.args.masks in
    let after : c.insert.new.self.groups ≡ t.groups.groups ++ new ∷ [] = c.insert.ensures.last ∙ ap (λ (g : Group). t.groups.groups ++ g ∷ []) c.control_group-group.ensures in
    let rmids = c.take_ids.new.rmids in
    IsKept-from_Keeps (creation.Keeps-with_control keeps c.args.name ids.class ids.rmid c.take_ids.new.classes rmids place space c.in-Ok.ensures.0 c.in-Ok.ensures.1 c.args.masks c.insert.new.self _ t.machine.in_range masks after c.insert.ensures.kept gids
    (State-same (record s { next_gid = s.next_gid + 1 }) c.insert.new.self.groups (t.groups.groups ++ new ∷ []) rmids.limbo t.rmids.limbo rmids.threshold t.rmids.threshold after (ap (λ (r : MonitoringIds). r.limbo) c.in-Ok.ensures.1.taken) (ap (λ (r : MonitoringIds). r.threshold) c.in-Ok.ensures.1.taken)))

pub invariant_of-self-in-Err : goal.invariant_of-self-in-Err
invariant_of-self-in-Err c =
    let t = c.self.inside in
    let m = parameters_of t.machine in
    let rmids = c.take_ids.new.rmids in
    subst (λ (s : State). IsKept m (tables t.groups t.tasks t.cpus c.take_ids.new.classes rmids t.regions) s t.epoch)
    (State-same (state_of m (tables t.groups t.tasks t.cpus t.classes t.rmids t.regions) t.status t.next_gid) t.groups.groups t.groups.groups t.rmids.limbo rmids.limbo t.rmids.threshold rmids.threshold refl (sym (ap (λ (r : MonitoringIds). r.limbo) c.in-Err.ensures.1)) (sym (ap (λ (r : MonitoringIds). r.threshold) c.in-Err.ensures.1)))
    (IsKept-from_Keeps (creation.Keeps-same_ids (Keeps-from_IsKept c.self.invariant) c.take_ids.new.classes rmids c.in-Err.ensures.0 (RmidsStay-same t.rmids rmids c.in-Err.ensures.1)))

pub returns-in-Ok : goal.returns-in-Ok
returns-in-Ok c =
    let t = c.self.inside in
    let m = parameters_of t.machine in
    let s = state_of m (tables t.groups t.tasks t.cpus t.classes t.rmids t.regions) t.status t.next_gid in
    let keeps = Keeps-from_IsKept c.self.invariant in
    let path = Dir (Ctrl c.args.name) in
    let place : find (against m s path) place_reasons ≡ None = subst (λ (v : TreeValue). find (against v.machine v.state path) place_reasons ≡ None) (sym c.self.view_is) c.requires.place in
    let space : full_domain m s ≡ None = subst (λ (v : TreeValue). full_domain v.machine v.state ≡ None) (sym c.self.view_is) c.requires.space in
    let masks : c.args.masks ≡ initial_masks m s = subst (λ (v : TreeValue). c.args.masks ≡ initial_masks v.machine v.state) (sym c.self.view_is) c.requires.masks in
    let ids = c.in-Ok.ids in
    let rmids = c.take_ids.new.rmids in
    let new = creation.control_record keeps c.args.name ids.class ids.rmid c.take_ids.new.classes rmids place space c.in-Ok.ensures.0 c.in-Ok.ensures.1 c.args.masks in
    let after : c.insert.new.self.groups ≡ t.groups.groups ++ new ∷ [] = c.insert.ensures.last ∙ ap (λ (g : Group). t.groups.groups ++ g ∷ []) c.control_group-group.ensures in
    let same = State-same (record s { next_gid = s.next_gid + 1 }) c.insert.new.self.groups (t.groups.groups ++ new ∷ []) rmids.limbo t.rmids.limbo rmids.threshold t.rmids.threshold after (ap (λ (r : MonitoringIds). r.limbo) c.in-Ok.ensures.1.taken) (ap (λ (r : MonitoringIds). r.threshold) c.in-Ok.ensures.1.taken) in
    subst (λ (v : TreeValue). MakesGroup v path (tree_of m (state_of m (tables c.insert.new.self t.tasks t.cpus c.take_ids.new.classes rmids t.regions) t.status (t.next_gid + 1)) t.epoch) replies.Ok) c.self.view_is
    (MakesUnless-made (creation.refusal-none keeps c.args.name ids.class ids.rmid c.take_ids.new.classes rmids place space c.in-Ok.ensures.0 c.in-Ok.ensures.1)
    (ap (λ (x : State). tree_of m x t.epoch) (same ∙ creation.with_control-accepted keeps c.args.name ids.class ids.rmid c.take_ids.new.classes rmids place space c.in-Ok.ensures.0 c.in-Ok.ensures.1 c.args.masks [] masks)) refl refl)

pub returns-in-Err : goal.returns-in-Err
returns-in-Err c =
    let t = c.self.inside in
    let m = parameters_of t.machine in
    let s = state_of m (tables t.groups t.tasks t.cpus t.classes t.rmids t.regions) t.status t.next_gid in
    let path = Dir (Ctrl c.args.name) in
    let rmids = c.take_ids.new.rmids in
    let place : find (against m s path) place_reasons ≡ None = subst (λ (v : TreeValue). find (against v.machine v.state path) place_reasons ≡ None) (sym c.self.view_is) c.requires.place in
    let space : full_domain m s ≡ None = subst (λ (v : TreeValue). full_domain v.machine v.state ≡ None) (sym c.self.view_is) c.requires.space in
    let lack : IsRefused m s path c.in-Err.reply = creation.IsRefused-no_ids (Keeps-from_IsKept c.self.invariant) c.args.name c.in-Err.reply place space c.in-Err.ensures.2 in
    let same = State-same s t.groups.groups t.groups.groups rmids.limbo t.rmids.limbo rmids.threshold t.rmids.threshold refl (ap (λ (r : MonitoringIds). r.limbo) c.in-Err.ensures.1) (ap (λ (r : MonitoringIds). r.threshold) c.in-Err.ensures.1) in
    subst (λ (v : TreeValue). MakesGroup v path (tree_of m (state_of m (tables t.groups t.tasks t.cpus c.take_ids.new.classes rmids t.regions) t.status t.next_gid) t.epoch) c.in-Err.reply) c.self.view_is
    (MakesUnless-refused lack.reason lack.is (ap (λ (x : State). tree_of m x t.epoch) same) lack.reply refl)
