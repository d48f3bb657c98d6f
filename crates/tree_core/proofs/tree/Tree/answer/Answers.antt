use Rattle.tree_core.proofs.KeptTables.{IsKept-status, Keeps-from_IsKept}
use Rattle.tree_core.proofs.tree.Tree.answer.Goals as goal

pub invariant_of-self : goal.invariant_of-self
invariant_of-self c = IsKept-status c.args.reply (Keeps-from_IsKept c.self.invariant)
