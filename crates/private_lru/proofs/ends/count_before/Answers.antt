use Rattle.std.proofs.Common.{ltb, ltb-true, ltb-false, rules}
use Rattle.std.proofs.lemmas.List.Sorted.{IsPartitionPoint-from_clause}
use Rattle.private_lru.proofs.RisingStays.{IsPartitionedBy-gid}
use Rattle.private_lru.specs.declared.exclusive_span.ExclusiveSpan.{ExclusiveSpan}
use Rattle.private_lru.proofs.ends.count_before.Goals as goal

pub returns-clause-before : goal.returns-clause-before
returns-clause-before c =
    let stays = c.args.stays.now in
    let point = IsPartitionPoint-from_clause (λ (s : ExclusiveSpan). ltb s.gid.0 c.args.gid.0) stays c.partition_point.result c.partition_point.ensures.partitioned (IsPartitionedBy-gid stays c.requires.rising c.args.gid.0) (λ a r q k. search rules) in
    λ k d a b. ltb-true _ _ (point.0 k d a b)

pub returns-clause-rest : goal.returns-clause-rest
returns-clause-rest c =
    let stays = c.args.stays.now in
    let point = IsPartitionPoint-from_clause (λ (s : ExclusiveSpan). ltb s.gid.0 c.args.gid.0) stays c.partition_point.result c.partition_point.ensures.partitioned (IsPartitionedBy-gid stays c.requires.rising c.args.gid.0) (λ a r q k. search rules) in
    λ k d a b. ltb-false _ _ (point.1 k d a b)
