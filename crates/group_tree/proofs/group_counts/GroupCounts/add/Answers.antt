use Rattle.std.proofs.Common.{arith}
use Rattle.group_tree.specs.Counts.{with_group}
use Rattle.group_tree.proofs.EachDomain.{AreChangedBelow-next}
use Rattle.group_tree.proofs.group_counts.GroupCounts.add.Goals as goal

pub loop-domain-preserved : goal.loop-domain-preserved
loop-domain-preserved c = AreChangedBelow-next (with_group c.args.g.now) c.args.self.now.domains c.loop-domain.self.domains c.loop-domain.domain _ _ (omega arith) c.add.ensures c.loop-domain.invariant

pub returns-clause-each : goal.returns-clause-each
returns-clause-each c = λ domain d exists. c.loop-domain.invariant.below domain d (omega (arith, exists))
