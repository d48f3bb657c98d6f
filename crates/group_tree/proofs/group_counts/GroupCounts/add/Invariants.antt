use Rattle.group_tree.specs.Counts.{with_group}
use Rattle.group_tree.proofs.EachDomain.{AreChangedBelow}
use Rattle.group_tree.proofs.group_counts.GroupCounts.add.Given as goal

abbrev pub invariant-loop-domain : goal.invariant-loop-domain
invariant-loop-domain l = AreChangedBelow (with_group l.g) l.initial.self.domains l.self.domains l.domain
