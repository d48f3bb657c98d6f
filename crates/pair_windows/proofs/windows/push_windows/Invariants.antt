use Rattle.std.proofs.Common.{◌≡◌, ◌++◌, take}
use Rattle.pair_windows.proofs.windows.push_windows.Given as goal

abbrev pub invariant-loop-window : goal.invariant-loop-window
invariant-loop-window l = l.all.items ≡ l.initial.all.items ++ take l.window-index l.windows
