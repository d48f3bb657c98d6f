use Rattle.std.proofs.Common.{◌≡◌, ◌++◌, false, map}
use Rattle.std.specs.List.{range_with_len}
use Rattle.json_report.specs.Pieces.{items_told}
use Rattle.json_report.specs.SliceValues.{slice_value}
use Rattle.json_report.proofs.slices.push_slice_items.Given as goal

abbrev pub invariant-loop-i : goal.invariant-loop-i
invariant-loop-i l = l.report ≡ l.initial.report ++ items_told false (map (slice_value l.script l.journals) (range_with_len 0 l.i))
