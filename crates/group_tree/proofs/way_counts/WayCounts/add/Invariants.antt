use Rattle.std.proofs.Common.{◌≡◌, ◌++◌, length, take, drop}
use Rattle.group_tree.specs.Counts.{added}
use Rattle.group_tree.proofs.way_counts.WayCounts.add.Given as goal

abbrev pub invariant-loop-k : goal.invariant-loop-k
invariant-loop-k l = record {
  size : length l.self.digits ≡ 9;
  same : added l.mask l.initial.self.digits ≡ take l.k l.self.digits ++ added l.carry (drop l.k l.self.digits);
}
