use Rattle.std.proofs.Common.{◌≡◌, ◌++◌, length, take, drop}
use Rattle.group_tree.specs.Counts.{removed}
use Rattle.group_tree.proofs.way_counts.WayCounts.remove.Given as goal

abbrev pub invariant-loop-k : goal.invariant-loop-k
invariant-loop-k l = record {
  size : length l.self.digits ≡ 9;
  same : removed l.mask l.initial.self.digits ≡ take l.k l.self.digits ++ removed l.borrow (drop l.k l.self.digits);
}
