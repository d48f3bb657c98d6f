use Rattle.std.proofs.Common.{refl, sym}
use Rattle.tree_core.proofs.Changes.{MakesUnless-refused}
use Rattle.tree_core.proofs.Refusals.{refusal-place}
use Rattle.tree_law.specs.Refusals.{plain}
use Rattle.tree_core.proofs.tree.Tree.make.Goals as goal

pub returns-in-Some : goal.returns-in-Some
returns-in-Some c =
    let v = c.args.self.now in MakesUnless-refused (plain c.in-Some.why) (refusal-place v.machine v.state c.args.path c.in-Some.why (sym c.in-Some.ensures)) refl c.refused.ensures refl
