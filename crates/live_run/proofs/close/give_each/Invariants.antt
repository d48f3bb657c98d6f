use Rattle.std.proofs.Common.{◌≡◌, ℕ, ◌+◌, ◌<◌, length}
use Rattle.live_run.proofs.close.give_each.Given as goal
use Rattle.live_run.specs.Cells.{pass_in}
use Rattle.live_run.specs.Closings.{HaveOneMore}

abbrev pub invariant-loop-k : goal.invariant-loop-k
invariant-loop-k l = record {
  left : length l.passes.items + l.k ≡ length l.fn.passes.items;
  same : (i : ℕ) → i < length l.passes.items → pass_in l.passes.items i ≡ pass_in l.fn.passes.items i;
  given : HaveOneMore l.k l.fn.passes.items l.fn.lists.items l.lists.items;
}
