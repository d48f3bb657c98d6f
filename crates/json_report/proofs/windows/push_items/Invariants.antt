use Rattle.std.proofs.Common.{◌≡◌, ◌++◌, false, map, take}
use Rattle.json_report.specs.Pieces.{items_told}
use Rattle.json_report.specs.WindowValues.{window_value}
use Rattle.json_report.proofs.windows.push_items.Given as goal

abbrev pub invariant-loop-i : goal.invariant-loop-i
invariant-loop-i l = l.report ≡ l.initial.report ++ items_told false (map window_value (take l.i l.windows))
