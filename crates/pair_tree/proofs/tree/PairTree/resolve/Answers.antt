use Rattle.std.proofs.Common.{Contains, subst, sym}
use Rattle.pair_law.specs.Bounds.{tasks_of}
use Rattle.pair_tree.proofs.Kept.{IsSome-binding_of}
use Rattle.pair_tree.specs.Tables.{state_of}
use Rattle.pair_tree.specs.Values.{PairTreeValue}
use Rattle.pair_tree.proofs.tree.PairTree.resolve.Goals as goal

pub owner_of-owner-requires : goal.owner_of-owner-requires
owner_of-owner-requires c = IsSome-binding_of (state_of c.self.inside.tables) c.args.task (subst (λ (v : PairTreeValue). Contains (tasks_of v.state) c.args.task) (sym c.self.view_is) c.requires.task)
