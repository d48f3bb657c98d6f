use Rattle.std.proofs.Common.{rules}
use Rattle.std.proofs.lemmas.List.Sorted.{IsPartitionPoint-from_clause}
use Rattle.group_tree.specs.Keys.{is_below}
use Rattle.group_tree.specs.declared.index.Entry.{Entry}
use Rattle.group_tree.proofs.Orders.{IsPartitionedBy-is_below}
use Rattle.group_tree.proofs.index.count_below.Goals as goal

pub returns-clause-parted : goal.returns-clause-parted
returns-clause-parted c = λ rising.
    IsPartitionPoint-from_clause (λ (e : Entry). is_below e.key c.args.key) c.args.entries.now c.partition_point.result c.partition_point.ensures.partitioned (IsPartitionedBy-is_below c.args.entries.now rising c.args.key) (λ a r q k. search rules)
