use Rattle.policy_law.proofs.Ages.{IsIsolated-srrip}
use Rattle.policy_law.proofs.Generators.{IsIsolated-random}
use Rattle.policy_law.proofs.Resets.{IsIsolated-nru}
use Rattle.policy_law.proofs.laws.Stamped.{IsIsolated-stamps}
use Rattle.policy_law.proofs.Subtrees.{IsIsolated-tree}
use Rattle.policy_law.proofs.theorems.known_policies_isolate.Goals as goal

pub returns-clause-stamps : goal.returns-clause-stamps
returns-clause-stamps c = IsIsolated-stamps

pub returns-clause-subtrees : goal.returns-clause-subtrees
returns-clause-subtrees c = IsIsolated-tree

pub returns-clause-resets : goal.returns-clause-resets
returns-clause-resets c = IsIsolated-nru

pub returns-clause-ages : goal.returns-clause-ages
returns-clause-ages c = IsIsolated-srrip

pub returns-clause-generators : goal.returns-clause-generators
returns-clause-generators c = IsIsolated-random
