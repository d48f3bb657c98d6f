use Rattle.std.proofs.Common.{◌≡◌, ℕ, List, [], find, None, refl, sym, subst, ap, ap₂, ◌∙◌}
use Rattle.hw_ids.specs.MonitoringIds.{MonitoringIds}
use Rattle.machine.specs.Maps.{parameters_of}
use Rattle.rc_base.specs.declared.replies.Reply.TheVariants as replies
use Rattle.tree_core.proofs.Changes.{MakesUnless-made, MakesUnless-refused}
use Rattle.tree_core.proofs.Creation.{Keeps-same_ids}
use Rattle.tree_core.proofs.KeptTables.{IsKept-from_Keeps, Keeps-from_IsKept}
use Rattle.tree_core.proofs.Returns.{ClassesStay-same}
use Rattle.tree_core.proofs.Setups.{rmid_refusal-none, rmid_refusal-taken}
use Rattle.tree_core.proofs.UnmadeGroups as unmade
use Rattle.tree_core.specs.Changes.{MakesGroup}
use Rattle.tree_core.specs.Kept.{IsKept}
use Rattle.tree_core.specs.Places.{place_reasons}
use Rattle.tree_core.specs.Tables.{state_of, tables}
use Rattle.tree_core.specs.Values.{TreeValue, tree_of}
use Rattle.tree_law.specs.State.{State}
use Rattle.tree_law.specs.commands.Mkdir.{against}
use Rattle.tree_core.proofs.tree.Tree.make_nothing.Goals as goal

pub free-requires-clause-not_default : goal.free-requires-clause-not_default
free-requires-clause-not_default c = unmade.rmid-not_zero (Keeps-from_IsKept c.self.invariant) c.take_rmid.new.rmids c.in-Ok.rmid c.in-Ok.ensures

pub invariant_of-self : goal.invariant_of-self
invariant_of-self c =
    let t = c.self.inside in
    let m = parameters_of t.machine in
    let s = state_of m (tables t.groups t.tasks t.cpus t.classes t.rmids t.regions) t.status t.next_gid in
    let keeps = Keeps-from_IsKept c.self.invariant in
    let path = c.args.path in
    let stay = unmade.RmidsStay-returned keeps c.take_rmid.new.rmids c.in-Ok.rmid c.in-Ok.ensures c.free.new.self c.free.ensures in
    let same = ap₂ (λ (ids : List ℕ) (n : ℕ). record s { limbo = ids; threshold = n }) stay.limbo stay.threshold in
    subst (λ (x : State). IsKept m (tables t.groups t.tasks t.cpus t.classes c.free.new.self t.regions) x t.epoch) (sym same)
    (IsKept-from_Keeps (Keeps-same_ids keeps t.classes c.free.new.self (ClassesStay-same t.classes) stay))

pub returns-in-Ok : goal.returns-in-Ok
returns-in-Ok c =
    let t = c.self.inside in
    let m = parameters_of t.machine in
    let s = state_of m (tables t.groups t.tasks t.cpus t.classes t.rmids t.regions) t.status t.next_gid in
    let keeps = Keeps-from_IsKept c.self.invariant in
    let path = c.args.path in
    let place : find (against m s path) place_reasons ≡ None = subst (λ (v : TreeValue). find (against v.machine v.state path) place_reasons ≡ None) (sym c.self.view_is) c.requires.place in
    let stay = unmade.RmidsStay-returned keeps c.take_rmid.new.rmids c.in-Ok.rmid c.in-Ok.ensures c.free.new.self c.free.ensures in
    let same = ap₂ (λ (ids : List ℕ) (n : ℕ). record s { limbo = ids; threshold = n }) stay.limbo stay.threshold in
    subst (λ (v : TreeValue). MakesGroup v path (tree_of m (state_of m (tables t.groups t.tasks t.cpus t.classes c.free.new.self t.regions) t.status t.next_gid) t.epoch) replies.Ok) c.self.view_is
    (MakesUnless-made (unmade.refusal-nameless m s path c.requires.nameless place ∙ rmid_refusal-taken keeps c.take_rmid.new.rmids c.in-Ok.rmid c.in-Ok.ensures)
    (ap (λ (x : State). tree_of m x t.epoch) (same ∙ sym (unmade.accepted-nameless m s path c.requires.nameless []))) refl refl)

pub returns-in-Err : goal.returns-in-Err
returns-in-Err c =
    let t = c.self.inside in
    let m = parameters_of t.machine in
    let s = state_of m (tables t.groups t.tasks t.cpus t.classes t.rmids t.regions) t.status t.next_gid in
    let path = c.args.path in
    let place : find (against m s path) place_reasons ≡ None = subst (λ (v : TreeValue). find (against v.machine v.state path) place_reasons ≡ None) (sym c.self.view_is) c.requires.place in
    let lack = rmid_refusal-none (Keeps-from_IsKept c.self.invariant) c.in-Err.reply c.in-Err.ensures.1 in
    subst (λ (v : TreeValue). MakesGroup v path (tree_of m (state_of m (tables t.groups t.tasks t.cpus t.classes c.take_rmid.new.rmids t.regions) t.status t.next_gid) t.epoch) c.in-Err.reply) c.self.view_is
    (MakesUnless-refused lack.0 (unmade.refusal-nameless m s path c.requires.nameless place ∙ lack.1)
    (ap (λ (r : MonitoringIds). tree_of m (state_of m (tables t.groups t.tasks t.cpus t.classes r t.regions) t.status t.next_gid) t.epoch) c.in-Err.ensures.0) lack.2 refl)
