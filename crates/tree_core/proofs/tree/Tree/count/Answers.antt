use Rattle.std.proofs.Common.{subst, arith}
use Rattle.machine.specs.Ranges.{InRange}
use Rattle.tree_core.proofs.KeptTables.{IsKept-suc, Keeps-from_IsKept}
use Rattle.tree_core.specs.Values.{TreeValue}
use Rattle.tree_law.specs.Sound.{IsSound}
use Rattle.tree_core.proofs.tree.Tree.count.Goals as goal

pub invariant_of-self : goal.invariant_of-self
invariant_of-self c = IsKept-suc (Keeps-from_IsKept c.self.invariant)

pub returns-clause-range : goal.returns-clause-range
returns-clause-range c = subst (λ (v : TreeValue). InRange v.machine) c.self.view_is c.self.inside.machine.in_range

pub returns-clause-sound : goal.returns-clause-sound
returns-clause-sound c = subst (λ (v : TreeValue). IsSound v.machine v.state) c.self.view_is (Keeps-from_IsKept c.self.invariant).sound

pub returns-clause-gids : goal.returns-clause-gids
returns-clause-gids c = (Keeps-from_IsKept c.self.invariant).stands.gids_left

pub returns-clause-locks : goal.returns-clause-locks
returns-clause-locks c = let left = (Keeps-from_IsKept c.self.invariant).stands.locks_left in omega arith
