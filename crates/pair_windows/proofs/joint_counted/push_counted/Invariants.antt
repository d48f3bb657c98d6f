use Rattle.std.proofs.Common.{◌≡◌, ◌++◌, filter, take}
use Rattle.pair_windows.specs.JointCounted.{counted_windows, is_used}
use Rattle.pair_windows.proofs.joint_counted.push_counted.Given as goal

abbrev pub invariant-loop-i : goal.invariant-loop-i
invariant-loop-i l = l.windows.items ≡ l.initial.windows.items ++ filter is_used (counted_windows l.domain l.from (take l.i l.groups.held.now) (take l.i l.groups.l2.now) (take l.i l.groups.l3.now))
