use Rattle.std.proofs.Common.{arith}
use Rattle.group_tree.specs.Counts.{without_group}
use Rattle.group_tree.proofs.EachDomain.{AreChangedBelow-next}
use Rattle.group_tree.proofs.group_counts.GroupCounts.remove.Goals as goal

pub loop-domain-preserved : goal.loop-domain-preserved
loop-domain-preserved c = AreChangedBelow-next (without_group c.args.g.now) c.args.self.now.domains c.loop-domain.self.domains c.loop-domain.domain _ _ (omega arith) c.remove.ensures c.loop-domain.invariant

pub returns-clause-each : goal.returns-clause-each
returns-clause-each c = λ domain d exists. c.loop-domain.invariant.below domain d (omega (arith, exists))
