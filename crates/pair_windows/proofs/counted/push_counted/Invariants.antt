use Rattle.std.proofs.Common.{◌≡◌, ◌++◌, filter, take}
use Rattle.pair_windows.specs.CdpWindows.{is_used}
use Rattle.pair_windows.specs.Counted.{counted_windows}
use Rattle.pair_windows.proofs.counted.push_counted.Given as goal

abbrev pub invariant-loop-i : goal.invariant-loop-i
invariant-loop-i l = l.windows.items ≡ l.initial.windows.items ++ filter is_used (counted_windows l.domain l.from (take l.i l.kept) (take l.i l.counts))
