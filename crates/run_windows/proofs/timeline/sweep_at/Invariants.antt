use Rattle.std.proofs.Common.{length}
use Rattle.run_windows.specs.Sweeps.{IsSwept, swept}
use Rattle.run_windows.proofs.timeline.sweep_at.Given as goal

abbrev pub invariant-loop-back : goal.invariant-loop-back
invariant-loop-back l = IsSwept (swept l.domain (length l.timeline.run.journals.now.tree) l.timeline.pasts.now l.back) l.sweep
