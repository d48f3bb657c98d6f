use Rattle.std.proofs.Common.{◌≡◌, map, take}
use Rattle.std.specs.List.{flat_map}
use Rattle.pair_windows.specs.Partitions.{partitions_of}
use Rattle.private_lru.specs.Keeping.{span_to}
use Rattle.pair_windows.proofs.partition_spans.partitions.Given as goal

abbrev pub invariant-loop-group : goal.invariant-loop-group
invariant-loop-group l = l.kept.items ≡ map (span_to l.epoch) (flat_map (partitions_of l.domain) (take l.group-index l.group-items))
