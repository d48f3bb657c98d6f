use Rattle.std.proofs.Common.{◌≡◌, map, take}
use Rattle.pair_windows.specs.PartitionSpans.{stay_of}
use Rattle.pair_windows.proofs.partition_spans.stays_of.Given as goal

abbrev pub invariant-loop-span : goal.invariant-loop-span
invariant-loop-span l = l.stays.items ≡ map stay_of (take l.span-index l.kept)
