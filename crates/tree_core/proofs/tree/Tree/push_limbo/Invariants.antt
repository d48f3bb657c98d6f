use Rattle.std.proofs.Common.{◌≡◌, take}
use Rattle.tree_core.proofs.tree.Tree.push_limbo.Given as goal

abbrev pub invariant-loop-i : goal.invariant-loop-i
invariant-loop-i l = l.rmids.items ≡ take l.i l.self.state.limbo
