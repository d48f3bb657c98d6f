use Rattle.std.proofs.Common.{rules}
use Rattle.std.proofs.lemmas.List.Sorted.{IsPartitionPoint-from_clause}
use Rattle.group_tree.specs.Indices.{precedes}
use Rattle.group_tree.specs.declared.index.Entry.{Entry}
use Rattle.group_tree.proofs.Orders.{IsPartitionedBy-precedes}
use Rattle.group_tree.proofs.index.count_before.Goals as goal

pub returns-clause-parted : goal.returns-clause-parted
returns-clause-parted c = λ rising.
    IsPartitionPoint-from_clause (λ (e : Entry). precedes e c.args.new) c.args.entries.now c.partition_point.result c.partition_point.ensures.partitioned (IsPartitionedBy-precedes c.args.entries.now rising c.args.new) (λ a r q k. search rules)
