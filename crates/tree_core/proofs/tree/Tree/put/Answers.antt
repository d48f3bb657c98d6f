use Rattle.std.proofs.Common.{◌≡◌, List, find, Some, refl, sym, subst, ap}
use Rattle.group_tree.specs.Records.{has_gid}
use Rattle.group_tree.specs.declared.group.Group.{Group}
use Rattle.machine.specs.Maps.{parameters_of}
use Rattle.tree_core.proofs.ExchangedGroups as exchanged
use Rattle.tree_core.proofs.FoundGroups.{has_group-found}
use Rattle.tree_core.proofs.KeptTables.{IsKept-from_Keeps, Keeps-from_IsKept}
use Rattle.tree_core.specs.Tables.{state_of, tables}
use Rattle.tree_core.specs.Values.{TreeValue}
use Rattle.tree_law.specs.Places.{with_record}
use Rattle.tree_law.specs.Sound.{IsSound}
use Rattle.tree_core.proofs.tree.Tree.put.Goals as goal

pub replace-requires : goal.replace-requires
replace-requires c =
    let g = c.args.group in
    let there : find (has_gid g.gid) c.self.inside.groups.groups ≡ Some g = subst (λ (v : TreeValue). find (has_gid g.gid) v.state.groups ≡ Some g) (sym c.self.view_is) c.requires.there in
    has_group-found c.self.inside.groups.groups g.gid g there

pub invariant_of-self : goal.invariant_of-self
invariant_of-self c =
    let t = c.self.inside in
    let m = parameters_of t.machine in
    let s = state_of m (tables t.groups t.tasks t.cpus t.classes t.rmids t.regions) t.status t.next_gid in
    let keeps = Keeps-from_IsKept c.self.invariant in
    let g = c.args.group in
    let new = record g { mode = c.args.mode; masks = c.args.masks } in
    let there : find (has_gid g.gid) s.groups ≡ Some g = subst (λ (v : TreeValue). find (has_gid g.gid) v.state.groups ≡ Some g) (sym c.self.view_is) c.requires.there in
    let sound : IsSound m (with_record s new) = subst (λ (v : TreeValue). IsSound v.machine (with_record v.state new)) (sym c.self.view_is) c.requires.sound in
    let after = ap (λ (gs : List Group). record s { groups = gs }) c.replace.ensures.replaced in
    let taken = exchanged.AreTaken-exchanged keeps g new there refl t.classes t.rmids refl (exchanged.TakesOver-class keeps g new there refl g.class refl) refl (exchanged.TakesOver-rmid keeps g new there refl g.rmid refl) in
    IsKept-from_Keeps (exchanged.Keeps-exchanged keeps g new there refl c.replace.new.self t.classes t.rmids t.regions _ c.replace.ensures.replaced c.replace.ensures.kept taken refl keeps.stands.locks_left after (subst (IsSound m) (sym after) sound))
