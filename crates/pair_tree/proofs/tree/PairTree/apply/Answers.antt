use Rattle.std.proofs.Common.{arith, ap}
use Rattle.pair_tree.proofs.Kept.{IsKept-next}
use Rattle.pair_tree.specs.Values.{PairTreeValue}
use Rattle.pair_tree.proofs.tree.PairTree.apply.Goals as goal

pub take-reply-requires-clause-gids : goal.take-reply-requires-clause-gids
take-reply-requires-clause-gids c = omega (arith, c.self.invariant.gids_left, ap (λ (v : PairTreeValue). v.epoch) c.self.view_is, c.requires.epoch)

pub invariant_of-self : goal.invariant_of-self
invariant_of-self c = IsKept-next _ _ _ _ _ _ c.self.invariant c.take-reply.ensures
