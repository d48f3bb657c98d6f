use Rattle.std.proofs.Common.{refl, sym, ◌∙◌}
use Rattle.tree_core.proofs.Changes.{MakesUnless-refused}
use Rattle.tree_core.proofs.Refusals.{IsRefused-spent}
use Rattle.tree_core.proofs.tree.Tree.make_control.Goals as goal

pub returns-else-has_class : goal.returns-else-has_class
returns-else-has_class c =
    let v = c.args.self.now in let spent = IsRefused-spent v.machine v.state c.args.name c.requires.place (sym c.has_class.ensures.free ∙ c.if-has_class.false) in
    MakesUnless-refused spent.reason spent.is c.has_class.ensures.tree (c.refused.ensures ∙ spent.reply) refl
