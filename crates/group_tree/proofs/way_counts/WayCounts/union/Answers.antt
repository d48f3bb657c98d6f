use Rattle.std.proofs.Common.{arith}
use Rattle.group_tree.proofs.Unions.{IsUnion-next}
use Rattle.group_tree.proofs.way_counts.WayCounts.union.Goals as goal

pub loop-digit-preserved : goal.loop-digit-preserved
loop-digit-preserved c = IsUnion-next c.loop-digit.ways c.args.self.now.digits c.loop-digit.digit-index _ (omega arith) c.loop-digit.invariant
