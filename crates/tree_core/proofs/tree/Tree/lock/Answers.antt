use Rattle.std.proofs.Common.{◌≡◌, ◌+◌, ◌<◌, ◌≤◌, List, find, take, Option, Some, Ok, refl, sym, subst, ap, ◌∙◌, arith}
use Rattle.group_tree.specs.Lists.{has_group, replaced}
use Rattle.group_tree.specs.Records.{has_gid}
use Rattle.group_tree.specs.declared.group.Group.{Group}
use Rattle.machine.specs.Maps.{parameters_of}
use Rattle.mode_rules.specs.Overlaps.{write_overlap}
use Rattle.pseudo_lock.specs.Regions.{RegionTable}
use Rattle.pseudo_lock.specs.declared.region.Region.{Region}
use Rattle.rc_base.specs.declared.names.Mode.{Mode}
use Rattle.rc_base.specs.declared.names.Mode.TheVariants.{LockSetup}
use Rattle.tree_core.proofs.ControlGroups.{IfSome-not_zero}
use Rattle.tree_core.proofs.ExchangedGroups as exchanged
use Rattle.tree_core.proofs.FoundGroups.{has_group-found}
use Rattle.tree_core.proofs.KeptTables.{IsKept-from_Keeps, Keeps-from_IsKept, MayGive-found}
use Rattle.tree_core.proofs.Locks.{gid-not_default, region_in-free, regions-placed}
use Rattle.tree_core.specs.Tables.{state_of, tables}
use Rattle.tree_core.specs.Values.{TreeValue, tree_of}
use Rattle.tree_law.specs.Counted.{is_counted_mode}
use Rattle.tree_law.specs.Sound.{IsSound}
use Rattle.tree_law.specs.Space.{used_in}
use Rattle.tree_law.specs.commands.Schemata.{locked, region_for, with_region}
use Rattle.tree_law.specs.State.{State}
use Rattle.tree_core.proofs.tree.Tree.lock.Goals as goal

pub place-region-requires-clause-exists : goal.place-region-requires-clause-exists
place-region-requires-clause-exists c =
    let t = c.self.inside in
    let below : c.args.a.now.domain < t.machine.domains = subst (λ (v : TreeValue). c.args.a.now.domain < v.machine.domains) (sym c.self.view_is) c.requires.exists in
    let most = t.machine.in_range.domain_limit in
    omega arith

pub place-region-requires-clause-free : goal.place-region-requires-clause-free
place-region-requires-clause-free c =
    let t = c.self.inside in
    let m = parameters_of t.machine in
    let s = state_of m (tables t.groups t.tasks t.cpus t.classes t.rmids t.regions) t.status t.next_gid in
    let a = c.args.a.now in let g = c.args.group.now in
    let below : a.domain < m.domains = subst (λ (v : TreeValue). a.domain < v.machine.domains) (sym c.self.view_is) c.requires.exists in
    let free : write_overlap LockSetup a.mask (used_in m s (Some g.gid) a.domain) ≡ Ok tt = subst (λ (v : TreeValue). write_overlap LockSetup a.mask (used_in v.machine v.state (Some g.gid) a.domain) ≡ Ok tt) (sym c.self.view_is) c.requires.free in
    region_in-free (Keeps-from_IsKept c.self.invariant) (Some g.gid) a.mask a.domain below free

pub place-region-requires-clause-limit : goal.place-region-requires-clause-limit
place-region-requires-clause-limit c =
    let t = c.self.inside in
    let fewer : t.regions.placed < t.epoch = subst (λ (v : TreeValue). v.state.locks < v.epoch) (sym c.self.view_is) c.requires.locks in
    let most : t.epoch ≤ 4000000 = subst (λ (v : TreeValue). v.epoch ≤ 4000000) (sym c.self.view_is) c.requires.epoch in
    omega arith

pub give-requires : goal.give-requires
give-requires c =
    let t = c.self.inside in let g = c.args.group.now in
    let keeps = Keeps-from_IsKept c.self.invariant in
    let there : find (has_gid g.gid) t.groups.groups ≡ Some g = subst (λ (v : TreeValue). find (has_gid g.gid) v.state.groups ≡ Some g) (sym c.self.view_is) c.requires.there in
    let other = gid-not_default keeps g there (ap (λ (mode : Mode). is_counted_mode mode) c.requires.setup) in
    record { may = MayGive-found keeps g.gid g there g.class refl (IfSome-not_zero keeps g g.gid other there) }

pub replace-requires : goal.replace-requires
replace-requires c =
    let t = c.self.inside in let g = c.args.group.now in
    let there : find (has_gid g.gid) t.groups.groups ≡ Some g = subst (λ (v : TreeValue). find (has_gid g.gid) v.state.groups ≡ Some g) (sym c.self.view_is) c.requires.there in
    ap (λ (x : Group). has_group x.gid t.groups.groups) c.locked.ensures.whole ∙ has_group-found t.groups.groups g.gid g there

pub locked-requires : goal.locked-requires
locked-requires c =
    let t = c.self.inside in
    let below : c.args.a.now.domain < t.machine.domains = subst (λ (v : TreeValue). c.args.a.now.domain < v.machine.domains) (sym c.self.view_is) c.requires.exists in
    let most = t.machine.in_range.domain_limit in
    omega arith

pub invariant_of-self : goal.invariant_of-self
invariant_of-self c =
    let t = c.self.inside in
    let m = parameters_of t.machine in
    let s = state_of m (tables t.groups t.tasks t.cpus t.classes t.rmids t.regions) t.status t.next_gid in
    let keeps = Keeps-from_IsKept c.self.invariant in
    let a = c.args.a.now in let g = c.args.group.now in
    let new = locked g a in
    let below : a.domain < m.domains = subst (λ (v : TreeValue). a.domain < v.machine.domains) (sym c.self.view_is) c.requires.exists in
    let there : find (has_gid g.gid) s.groups ≡ Some g = subst (λ (v : TreeValue). find (has_gid g.gid) v.state.groups ≡ Some g) (sym c.self.view_is) c.requires.there in
    let sound : IsSound m (with_region s g a) = subst (λ (v : TreeValue). IsSound v.machine (with_region v.state g a)) (sym c.self.view_is) c.requires.sound in
    let fewer : t.regions.placed < t.epoch = subst (λ (v : TreeValue). v.state.locks < v.epoch) (sym c.self.view_is) c.requires.locks in
    let groups = c.replace.ensures.replaced ∙ ap (λ (x : Group). replaced x t.groups.groups) c.locked.ensures.whole in
    let after = ap (λ (gs : List Group). record s { groups = gs; regions = take m.domains c.place-region.new.self.places; locks = c.place-region.new.self.placed }) groups in
    let is_region = after
    ∙ ap (λ (r : RegionTable). record s { groups = replaced new s.groups; regions = take m.domains r.places; locks = r.placed }) c.place-region.ensures.placed
    ∙ ap (λ (rs : List (Option Region)). record s { groups = replaced new s.groups; regions = rs; locks = t.regions.placed + 1 }) (regions-placed keeps a.domain (region_for s g a) below) in
    let taken = exchanged.AreTaken-exchanged keeps g new there refl c.give.new.classes t.rmids c.give.ensures.count c.give.ensures.taken refl (exchanged.TakesOver-rmid keeps g new there refl g.rmid refl) in
    let placed = ap (λ (r : RegionTable). r.placed) c.place-region.ensures.placed in
    IsKept-from_Keeps (exchanged.Keeps-exchanged keeps g new there refl c.replace.new.self c.give.new.classes t.rmids c.place-region.new.self _ groups c.replace.ensures.kept taken refl (omega (arith, placed, fewer)) after (subst (IsSound m) (sym is_region) sound))

pub returns-clause-tree : goal.returns-clause-tree
returns-clause-tree c =
    let t = c.self.inside in
    let m = parameters_of t.machine in
    let s = state_of m (tables t.groups t.tasks t.cpus t.classes t.rmids t.regions) t.status t.next_gid in
    let keeps = Keeps-from_IsKept c.self.invariant in
    let a = c.args.a.now in let g = c.args.group.now in
    let new = locked g a in
    let below : a.domain < m.domains = subst (λ (v : TreeValue). a.domain < v.machine.domains) (sym c.self.view_is) c.requires.exists in
    let groups = c.replace.ensures.replaced ∙ ap (λ (x : Group). replaced x t.groups.groups) c.locked.ensures.whole in
    let is_region = ap (λ (gs : List Group). record s { groups = gs; regions = take m.domains c.place-region.new.self.places; locks = c.place-region.new.self.placed }) groups
    ∙ ap (λ (r : RegionTable). record s { groups = replaced new s.groups; regions = take m.domains r.places; locks = r.placed }) c.place-region.ensures.placed
    ∙ ap (λ (rs : List (Option Region)). record s { groups = replaced new s.groups; regions = rs; locks = t.regions.placed + 1 }) (regions-placed keeps a.domain (region_for s g a) below) in
    subst (λ (v : TreeValue). tree_of m (state_of m (tables c.replace.new.self t.tasks t.cpus c.give.new.classes t.rmids c.place-region.new.self) t.status t.next_gid) t.epoch ≡ record v { state = with_region v.state g a }) c.self.view_is
    (ap (λ (x : State). tree_of m x t.epoch) is_region)
