use Rattle.std.proofs.Common.{◌≡◌, ◌*◌, ◌≤◌, ◌^◌, take}
use Rattle.std.specs.List.{sum}
use Rattle.file_view.proofs.occupancy.lines_of.Given as goal

abbrev pub invariant-loop-count : goal.invariant-loop-count
invariant-loop-count l = record {
  sum : l.lines ≡ sum (take l.count-index l.looks);
  small : l.lines ≤ 2 ^ 32 * l.count-index;
}
