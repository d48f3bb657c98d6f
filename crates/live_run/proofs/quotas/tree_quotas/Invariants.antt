use Rattle.std.proofs.Common.{◌≡◌, map, take}
use Rattle.live_run.proofs.quotas.tree_quotas.Given as goal
use Rattle.run_law.specs.Quotas.{commands_of}
use Rattle.script_ops.specs.Values.{threads_of}

abbrev pub invariant-loop-t : goal.invariant-loop-t
invariant-loop-t l = l.quotas.items ≡ map commands_of (take l.t (threads_of l.script))
