use Rattle.std.proofs.Common.{◌≡◌, map, take}
use Rattle.live_run.proofs.quotas.slice_quotas.Given as goal
use Rattle.run_law.specs.Quotas.{quotas_of}
use Rattle.script_ops.specs.Values.{threads_of}

abbrev pub invariant-loop-t : goal.invariant-loop-t
invariant-loop-t l = l.quotas.items ≡ map (quotas_of l.script.machine l.i) (take l.t (threads_of l.script))
