use Rattle.std.proofs.Common.{◌≡◌, ap, ◌∙◌, sym}
use Rattle.std.proofs.lemmas.Option.{get_or_from_slice_get}
use Rattle.pair_law.specs.State.{PairGroup}
use Rattle.pair_law.specs.commands.Rmdir.{without_group}
use Rattle.pair_tree.proofs.Unless.{MakesUnless-accepted, MakesUnless-refused, rmdir-none, rmdir-some}
use Rattle.pair_tree.specs.Tables.{state_of}
use Rattle.rc_base.specs.declared.replies.Why.TheVariants.{NoSuchPath}
use Rattle.tree_law.specs.Refusals.{plain}
use Rattle.pair_tree.proofs.tables.Tables.rmdir.Goals as goal

pub returns-in-Some : goal.returns-in-Some
returns-in-Some c =
    let s = state_of c.args.self.now in
    let found = rw c.deref.ensures.value at c.in-Some.ensures in
    let g : PairGroup = found.0 in
    let is : c.index.result.now ≡ g = c.index.ensures ∙ get_or_from_slice_get c.args.self.now.groups.items c.in-Some.place g c.index.result.now found.1 in
    let went = rmdir-some s c.args.name.now g found.2 in
    MakesUnless-accepted _ _ _ _ went.0 (c.remove.ensures ∙ ap (λ (x : PairGroup). without_group s x.gid) is ∙ sym went.1)

pub returns-in-None : goal.returns-in-None
returns-in-None c =
    let s = state_of c.args.self.now in
    let none = rw c.deref.ensures.value at c.in-None.ensures in
    MakesUnless-refused _ _ _ (plain NoSuchPath) _ (rmdir-none s c.args.name.now none) c.refused.ensures
