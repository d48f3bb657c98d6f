use Rattle.std.proofs.Common.{◌≡◌, ◌+◌, ◌≤◌, ◌++◌, length, map, take}
use Rattle.pair_law.specs.Reading.{side_mask}
use Rattle.pair_tree.proofs.reading.push_masks.Given as goal

abbrev pub invariant-loop-a : goal.invariant-loop-a
invariant-loop-a l = record {
  so_far : l.all.items ≡ l.initial.all.items ++ map (side_mask l.side) (take l.a-index l.own);
  room : length l.initial.all.items + length l.own ≤ 16;
}
