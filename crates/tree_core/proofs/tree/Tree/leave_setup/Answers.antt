use Rattle.std.proofs.Common.{◌≡◌, ℕ, List, find, map, Option, None, Some, refl, sym, subst, ap, ap₂, ◌∙◌}
use Rattle.std.specs.List.{range_with_len}
use Rattle.group_tree.specs.Records.{has_gid}
use Rattle.group_tree.specs.declared.group.Group.{Group}
use Rattle.hw_ids.specs.MonitoringIds.{MonitoringIds}
use Rattle.machine.specs.Maps.{parameters_of}
use Rattle.rc_base.specs.declared.replies.Reply.TheVariants as replies
use Rattle.tree_core.proofs.Changes.{MakesUnless-made, MakesUnless-refused}
use Rattle.tree_core.proofs.ExchangedGroups as exchanged
use Rattle.tree_core.proofs.FoundGroups.{has_group-found}
use Rattle.tree_core.proofs.KeptTables.{IsKept-from_Keeps, Keeps-from_IsKept}
use Rattle.tree_core.proofs.Setups as setups
use Rattle.tree_core.specs.Changes.{MakesUnless}
use Rattle.tree_core.specs.Tables.{state_of, tables}
use Rattle.tree_core.specs.Values.{TreeValue, tree_of}
use Rattle.tree_law.specs.Places.{with_record}
use Rattle.tree_law.specs.Sound.{IsSound}
use Rattle.tree_law.specs.Space.{free_rmid}
use Rattle.tree_law.specs.State.{State}
use Rattle.tree_law.specs.commands.Mode.{rmid_refusal}
use Rattle.tree_law.specs.declared.follow.Follow.TheVariants.{Raise}
use Rattle.tree_core.proofs.tree.Tree.leave_setup.Goals as goal

pub replace-requires : goal.replace-requires
replace-requires c =
    let t = c.self.inside in let g = c.args.group.now in
    let there : find (has_gid g.gid) t.groups.groups ≡ Some g = subst (λ (v : TreeValue). find (has_gid g.gid) v.state.groups ≡ Some g) (sym c.self.view_is) c.requires.there in
    has_group-found t.groups.groups g.gid g there

pub invariant_of-self : goal.invariant_of-self
invariant_of-self c =
    let t = c.self.inside in
    let m = parameters_of t.machine in
    let s = state_of m (tables t.groups t.tasks t.cpus t.classes t.rmids t.regions) t.status t.next_gid in
    let keeps = Keeps-from_IsKept c.self.invariant in
    let g = c.args.group.now in
    let rmids = c.take_rmid.new.rmids in let rmid = c.in-Ok.rmid in
    let new = record g { mode = c.args.mode; rmid = Some rmid } in
    let there : find (has_gid g.gid) s.groups ≡ Some g = subst (λ (v : TreeValue). find (has_gid g.gid) v.state.groups ≡ Some g) (sym c.self.view_is) c.requires.there in
    let took = c.in-Ok.ensures in
    let free = setups.free_rmid-taken keeps rmids rmid took in
    let none = setups.rmid_refusal-taken keeps rmids rmid took in
    let law : IsSound m (with_record s (record g { mode = c.args.mode; rmid = free_rmid m s })) = subst (λ (v : TreeValue). rmid_refusal v.machine v.state ≡ None → IsSound v.machine (with_record v.state (record g { mode = c.args.mode; rmid = free_rmid v.machine v.state }))) (sym c.self.view_is) c.requires.sound none in
    let sound : IsSound m (with_record s new) = subst (λ (o : Option ℕ). IsSound m (with_record s (record g { mode = c.args.mode; rmid = o }))) free law in
    let after = ap₂ (λ (gs : List Group) (r : MonitoringIds). record s { groups = gs; limbo = rmids.limbo; threshold = r.threshold }) c.replace.ensures.replaced took.taken in
    let is_limbo = after ∙ ap (λ (r : MonitoringIds). record (with_record s new) { limbo = r.limbo }) took.taken in
    let given = setups.rmid-setup keeps g there c.requires.control c.requires.setup in
    let taken = exchanged.AreTaken-exchanged keeps g new there refl t.classes rmids refl (exchanged.TakesOver-class keeps g new there refl g.class refl) (ap (λ (r : MonitoringIds). r.count) took.taken) (setups.TakesOver-taken keeps rmids rmid g.rmid given took) in
    IsKept-from_Keeps (exchanged.Keeps-exchanged keeps g new there refl c.replace.new.self t.classes rmids t.regions _ c.replace.ensures.replaced c.replace.ensures.kept taken (ap (λ (r : MonitoringIds). r.threshold) took.taken) keeps.stands.locks_left after (subst (IsSound m) (sym is_limbo) sound))

pub returns-in-Ok : goal.returns-in-Ok
returns-in-Ok c =
    let t = c.self.inside in
    let m = parameters_of t.machine in
    let s = state_of m (tables t.groups t.tasks t.cpus t.classes t.rmids t.regions) t.status t.next_gid in
    let keeps = Keeps-from_IsKept c.self.invariant in
    let g = c.args.group.now in
    let rmids = c.take_rmid.new.rmids in let rmid = c.in-Ok.rmid in let took = c.in-Ok.ensures in
    let is = ap₂ (λ (gs : List Group) (r : MonitoringIds). record s { groups = gs; limbo = rmids.limbo; threshold = r.threshold }) c.replace.ensures.replaced took.taken
    ∙ ap (λ (r : MonitoringIds). record (with_record s (record g { mode = c.args.mode; rmid = Some rmid })) { limbo = r.limbo }) took.taken
    ∙ ap (λ (o : Option ℕ). with_record s (record g { mode = c.args.mode; rmid = o })) (sym (setups.free_rmid-taken keeps rmids rmid took)) in
    subst (λ (v : TreeValue). MakesUnless v (rmid_refusal v.machine v.state) (with_record v.state (record g { mode = c.args.mode; rmid = free_rmid v.machine v.state })) (map (λ d. Raise d) (range_with_len 0 v.machine.domains)) (tree_of m (state_of m (tables c.replace.new.self t.tasks t.cpus t.classes rmids t.regions) t.status t.next_gid) t.epoch) replies.Ok c.raise_all.new.follows.items) c.self.view_is
    (MakesUnless-made (setups.rmid_refusal-taken keeps rmids rmid took) (ap (λ (x : State). tree_of m x t.epoch) is) refl c.raise_all.ensures.raises)

pub returns-in-Err : goal.returns-in-Err
returns-in-Err c =
    let t = c.self.inside in
    let m = parameters_of t.machine in
    let g = c.args.group.now in
    let lack = setups.rmid_refusal-none (Keeps-from_IsKept c.self.invariant) c.in-Err.reply c.in-Err.ensures.1 in
    subst (λ (v : TreeValue). MakesUnless v (rmid_refusal v.machine v.state) (with_record v.state (record g { mode = c.args.mode; rmid = free_rmid v.machine v.state })) (map (λ d. Raise d) (range_with_len 0 v.machine.domains)) (tree_of m (state_of m (tables t.groups t.tasks t.cpus t.classes c.take_rmid.new.rmids t.regions) t.status t.next_gid) t.epoch) c.in-Err.reply c.args.follows.now.items) c.self.view_is
    (MakesUnless-refused lack.0 lack.1 (ap (λ (r : MonitoringIds). tree_of m (state_of m (tables t.groups t.tasks t.cpus t.classes r t.regions) t.status t.next_gid) t.epoch) c.in-Err.ensures.0) lack.2 c.requires.nothing)
