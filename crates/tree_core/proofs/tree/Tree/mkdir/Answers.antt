use Rattle.tree_core.proofs.Commands.{Takes-mkdir}
use Rattle.tree_core.proofs.tree.Tree.mkdir.Goals as goal

pub returns : goal.returns
returns c = λ looks. Takes-mkdir c.make-reply.ensures c.answer.ensures.tree c.answer.ensures.reply
