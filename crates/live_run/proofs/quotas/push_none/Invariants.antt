use Rattle.std.proofs.Common.{◌≡◌, ◌++◌, replicate}
use Rattle.live_run.proofs.quotas.push_none.Given as goal

abbrev pub invariant-loop : goal.invariant-loop
invariant-loop l = l.quotas.items ≡ l.fn.quotas.items ++ replicate l.counter 0
