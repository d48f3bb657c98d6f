use Rattle.std.proofs.Common.{◌≡◌, ◌++◌, take}
use Rattle.std.specs.List.{flat_map}
use Rattle.report_text.specs.WindowLines.{window_line}
use Rattle.report_text.proofs.windows.push_all.Given as goal

abbrev pub invariant-loop-window : goal.invariant-loop-window
invariant-loop-window l = l.report ≡ l.initial.report ++ flat_map window_line (take l.window-index l.windows)
