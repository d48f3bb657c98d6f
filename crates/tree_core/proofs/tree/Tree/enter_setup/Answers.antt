use Rattle.std.proofs.Common.{◌≡◌, ◌*◌, not, ◌&&◌, ℕ, List, length, find, None, Some, refl, sym, subst, ap, ap₂, ◌∙◌}
use Rattle.group_tree.specs.Records.{has_gid}
use Rattle.group_tree.specs.declared.group.Group.{Group}
use Rattle.hw_ids.specs.Ids.{contains}
use Rattle.machine.specs.Maps.{parameters_of}
use Rattle.rc_base.specs.declared.names.Mode.TheVariants.{LockSetup}
use Rattle.tree_core.proofs.ExchangedGroups as exchanged
use Rattle.tree_core.proofs.FoundGroups.{has_group-found}
use Rattle.tree_core.proofs.GoingGroups.{contains-option_to_list}
use Rattle.tree_core.proofs.KeptTables.{IsKept-from_Keeps, Keeps-from_IsKept}
use Rattle.tree_core.proofs.Setups.{MayFree-own}
use Rattle.tree_core.proofs.RemovedGroups.{table_threshold-lt}
use Rattle.tree_core.specs.RmidLists.{Frees, MayFree}
use Rattle.tree_core.specs.Tables.{state_of, tables}
use Rattle.tree_core.specs.Values.{TreeValue, tree_of}
use Rattle.tree_law.specs.Freeing.{limbo_after, rmids_of}
use Rattle.tree_law.specs.Places.{with_record}
use Rattle.tree_law.specs.Sound.{IsSound}
use Rattle.tree_law.specs.State.{State}
use Rattle.tree_core.proofs.tree.Tree.enter_setup.Goals as goal

pub free_all-requires : goal.free_all-requires
free_all-requires c =
    let t = c.self.inside in let g = c.args.group.now in
    let keeps = Keeps-from_IsKept c.self.invariant in
    let there : find (has_gid g.gid) t.groups.groups ≡ Some g = subst (λ (v : TreeValue). find (has_gid g.gid) v.state.groups ≡ Some g) (sym c.self.view_is) c.requires.there in
    let freed : c.as_slice.result.now ≡ rmids_of g = c.as_slice.ensures.value ∙ c.only-freed.ensures in
    let count : length c.args.looks.now ≡ length (rmids_of g) * t.machine.domains = subst (λ (v : TreeValue). length c.args.looks.now ≡ length (rmids_of g) * v.machine.domains) (sym c.self.view_is) c.requires.looks in
    record {
      may = subst (MayFree t.rmids.taken) (sym freed) (MayFree-own keeps g there c.requires.not_default);
      looks = count ∙ ap (λ (xs : List ℕ). length xs * t.machine.domains) (sym freed);
      threshold = table_threshold-lt keeps (λ (x : Group). has_gid g.gid x) t.machine.in_range;
    }

pub replace-requires : goal.replace-requires
replace-requires c =
    let t = c.self.inside in let g = c.args.group.now in
    let there : find (has_gid g.gid) t.groups.groups ≡ Some g = subst (λ (v : TreeValue). find (has_gid g.gid) v.state.groups ≡ Some g) (sym c.self.view_is) c.requires.there in
    has_group-found t.groups.groups g.gid g there

pub invariant_of-self : goal.invariant_of-self
invariant_of-self c =
    let t = c.self.inside in
    let m = parameters_of t.machine in
    let s = state_of m (tables t.groups t.tasks t.cpus t.classes t.rmids t.regions) t.status t.next_gid in
    let keeps = Keeps-from_IsKept c.self.invariant in
    let g = c.args.group.now in
    let new = record g { mode = LockSetup; rmid = None } in
    let there : find (has_gid g.gid) s.groups ≡ Some g = subst (λ (v : TreeValue). find (has_gid g.gid) v.state.groups ≡ Some g) (sym c.self.view_is) c.requires.there in
    let sound : IsSound m (record (with_record s new) { limbo = limbo_after m s.threshold s.limbo (rmids_of g) c.args.looks.now }) = subst (λ (v : TreeValue). IsSound v.machine (record (with_record v.state new) { limbo = limbo_after v.machine v.state.threshold v.state.limbo (rmids_of g) c.args.looks.now })) (sym c.self.view_is) c.requires.sound in
    let freed : c.as_slice.result.now ≡ rmids_of g = c.as_slice.ensures.value ∙ c.only-freed.ensures in
    let frees : Frees m (rmids_of g) c.args.looks.now t.rmids c.free_all.new.rmids = subst (λ (xs : List ℕ). Frees m xs c.args.looks.now t.rmids c.free_all.new.rmids) freed c.free_all.ensures in
    let rmids = λ (id : ℕ). frees.taken id ∙ ap (λ b. not b && contains id t.rmids.taken) (contains-option_to_list id g.rmid) in
    let taken = exchanged.AreTaken-exchanged keeps g new there refl t.classes c.free_all.new.rmids refl (exchanged.TakesOver-class keeps g new there refl g.class refl) frees.count rmids in
    let after = ap₂ (λ (gs : List Group) (n : ℕ). record s { groups = gs; limbo = c.free_all.new.rmids.limbo; threshold = n }) c.replace.ensures.replaced frees.threshold in
    let is_limbo = after ∙ ap (λ (ids : List ℕ). record (with_record s new) { limbo = ids }) frees.limbo in
    IsKept-from_Keeps (exchanged.Keeps-exchanged keeps g new there refl c.replace.new.self t.classes c.free_all.new.rmids t.regions _ c.replace.ensures.replaced c.replace.ensures.kept taken frees.threshold keeps.stands.locks_left after (subst (IsSound m) (sym is_limbo) sound))

pub returns-clause-tree : goal.returns-clause-tree
returns-clause-tree c =
    let t = c.self.inside in
    let m = parameters_of t.machine in
    let s = state_of m (tables t.groups t.tasks t.cpus t.classes t.rmids t.regions) t.status t.next_gid in
    let g = c.args.group.now in
    let new = record g { mode = LockSetup; rmid = None } in
    let freed : c.as_slice.result.now ≡ rmids_of g = c.as_slice.ensures.value ∙ c.only-freed.ensures in
    let frees : Frees m (rmids_of g) c.args.looks.now t.rmids c.free_all.new.rmids = subst (λ (xs : List ℕ). Frees m xs c.args.looks.now t.rmids c.free_all.new.rmids) freed c.free_all.ensures in
    let is = ap₂ (λ (gs : List Group) (n : ℕ). record s { groups = gs; limbo = c.free_all.new.rmids.limbo; threshold = n }) c.replace.ensures.replaced frees.threshold
    ∙ ap (λ (ids : List ℕ). record (with_record s new) { limbo = ids }) frees.limbo in
    subst (λ (v : TreeValue). tree_of m (state_of m (tables c.replace.new.self t.tasks t.cpus t.classes c.free_all.new.rmids t.regions) t.status t.next_gid) t.epoch ≡ record v { state = record (with_record v.state new) { limbo = limbo_after v.machine v.state.threshold v.state.limbo (rmids_of g) c.args.looks.now } }) c.self.view_is
    (ap (λ (x : State). tree_of m x t.epoch) is)
