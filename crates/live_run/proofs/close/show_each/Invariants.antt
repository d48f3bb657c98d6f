use Rattle.std.proofs.Common.{◌≡◌}
use Rattle.live_run.proofs.close.show_each.Given as goal
use Rattle.live_run.specs.Closings.{HaveSeenEach}

abbrev pub invariant-loop-i : goal.invariant-loop-i
invariant-loop-i g l = record {
  same : l.parts.items ≡ l.fn.parts.items;
  seen : HaveSeenEach l.i l.fn.parts.items l.fn.passes.items l.passes.items;
}
