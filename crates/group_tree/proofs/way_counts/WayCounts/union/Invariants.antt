use Rattle.std.proofs.Common.{take}
use Rattle.cbm.specs.Masks.{IsUnion}
use Rattle.group_tree.proofs.way_counts.WayCounts.union.Given as goal

abbrev pub invariant-loop-digit : goal.invariant-loop-digit
invariant-loop-digit l = IsUnion l.ways (take l.digit-index l.self.digits)
