use Rattle.std.proofs.Common.{◌≡◌, ◌++◌, drop}
use Rattle.tree_core.specs.RmidLists.{monitor_rmids}
use Rattle.tree_core.proofs.rmid_list.push_monitors.Given as goal

abbrev pub invariant-loop-i : goal.invariant-loop-i
invariant-loop-i l = l.rmids.items ++ monitor_rmids l.control (drop l.i l.groups.groups) ≡ l.initial.rmids.items ++ monitor_rmids l.control l.groups.groups
