use Rattle.std.proofs.Common.{ltb, rules}
use Rattle.std.proofs.lemmas.Bool.{ltb-false, ltb-true}
use Rattle.std.proofs.lemmas.List.Sorted.{IsPartitionPoint-from_clause}
use Rattle.run_windows.proofs.OneGroup.{IsPartitionedBy-older, place_in-older}
use Rattle.run_windows.specs.declared.exclusive_group.ExclusiveGroup.{ExclusiveGroup}
use Rattle.run_windows.proofs.edit.place_in.Goals as goal

pub returns : goal.returns
returns c =
    let groups = c.args.groups.now in
    let gid = c.args.gid in
    let parted = IsPartitionedBy-older gid groups c.requires in
    let point = IsPartitionPoint-from_clause (λ (x : ExclusiveGroup). ltb x.gid.0 gid.0) groups c.partition_point.result c.partition_point.ensures.partitioned parted (λ a r q k. search rules) in
    record {
      place = place_in-older gid groups c.partition_point.result c.partition_point.ensures.bound (λ k d a b. ltb-true _ _ (point.0 k d a b)) (λ k d a b. ltb-false _ _ (point.1 k d a b));
      within = c.partition_point.ensures.bound;
    }
