use Rattle.std.proofs.Common.{◌≡◌, ◌≤◌, ◌++◌, drop, length}
use Rattle.pair_law.specs.Reading.{on_side}
use Rattle.pair_tree.proofs.reading.on_side.Given as goal

abbrev pub invariant-loop-a : goal.invariant-loop-a
invariant-loop-a l = record {
  so_far : l.own.items ++ on_side l.side (drop l.a-index l.all) ≡ on_side l.side l.all;
  few : length (on_side l.side l.all) ≤ 8;
}
