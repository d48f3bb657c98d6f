use Rattle.std.proofs.Common.{◌≡◌, ◌++◌, length, map, take, drop}
use Rattle.group_tree.specs.Indices.{lowered}
use Rattle.group_tree.proofs.index.lower.Given as goal

abbrev pub invariant-loop-k : goal.invariant-loop-k
invariant-loop-k l = record {
  whole : length l.entries ≡ length l.initial.entries;
  walk : l.entries ≡ map (lowered l.place) (take l.k l.initial.entries) ++ drop l.k l.initial.entries;
}
