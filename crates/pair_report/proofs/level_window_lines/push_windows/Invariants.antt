use Rattle.std.proofs.Common.{◌≡◌, ◌++◌, take}
use Rattle.std.specs.List.{flat_map}
use Rattle.pair_report.specs.LevelReport.{window_line}
use Rattle.pair_report.proofs.level_window_lines.push_windows.Given as goal

abbrev pub invariant-loop-window : goal.invariant-loop-window
invariant-loop-window l = l.report ≡ l.initial.report ++ flat_map window_line (take l.window-index l.windows)
