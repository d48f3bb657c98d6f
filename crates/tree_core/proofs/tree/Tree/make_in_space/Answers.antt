use Rattle.std.proofs.Common.{refl, ap, ◌∙◌}
use Rattle.rc_base.specs.Replies.{refused}
use Rattle.rc_base.specs.declared.replies.Why.TheVariants.{NoSpace}
use Rattle.tree_core.proofs.Changes.{MakesUnless-refused}
use Rattle.tree_core.proofs.Refusals.{IsRefused-no_space}
use Rattle.tree_core.proofs.tree.Tree.make_in_space.Goals as goal

pub returns-in-Err : goal.returns-in-Err
returns-in-Err c =
    let v = c.args.self.now in let full = IsRefused-no_space v.machine v.state c.args.name c.in-Err.domain c.requires.place c.requires.class c.in-Err.ensures.full in
    MakesUnless-refused full.reason full.is refl (c.refused.ensures ∙ ap (refused NoSpace) c.from.ensures ∙ full.reply) refl
