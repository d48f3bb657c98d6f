use Rattle.std.proofs.Common.{◌≡◌, ◌++◌}
use Rattle.std.specs.List.{flat_map, range_with_len}
use Rattle.share_plans.specs.Reports.{row_line}
use Rattle.share_plans.proofs.report.push_row.Given as goal

abbrev pub invariant-loop-fewer : goal.invariant-loop-fewer
invariant-loop-fewer l = l.text ≡ l.initial.text ++ flat_map (row_line l.row) (range_with_len 1 l.fewer)
