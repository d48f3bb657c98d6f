use Rattle.std.proofs.Common.{◌≡◌, ℕ, ◌<◌}
use Rattle.run_law.specs.Journals.{slice_at}
use Rattle.replay_top.proofs.same.are_same.Given as goal

abbrev pub invariant-loop-i : goal.invariant-loop-i
invariant-loop-i l = record {
  tree : l.a.tree ≡ l.b.tree;
  same : (k : ℕ) → k < l.i → slice_at l.a k ≡ slice_at l.b k;
}
