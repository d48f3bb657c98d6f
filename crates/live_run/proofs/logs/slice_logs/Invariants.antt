use Rattle.live_run.proofs.logs.slice_logs.Given as goal
use Rattle.live_run.specs.Logs.{AreSliceLogs}

abbrev pub invariant-loop-i : goal.invariant-loop-i
invariant-loop-i l = AreSliceLogs l.script l.i l.logs.items
