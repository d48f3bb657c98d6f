use Rattle.std.proofs.Common.{◌≡◌, length}
use Rattle.replay_top.proofs.same.are_same_entries.Given as goal

abbrev pub invariant-entries : goal.invariant-entries
invariant-entries l = record {
  same : l.left ≡ l.right → l.a ≡ l.b;
}

abbrev pub decreases-entries : goal.decreases-entries
decreases-entries l = length l.left
