use Rattle.std.proofs.Common.{◌≡◌, length, map}
use Rattle.run_law.specs.Entries.{entry_value}
use Rattle.replay_top.proofs.same.are_same_commands.Given as goal

abbrev pub invariant-entries : goal.invariant-entries
invariant-entries l = record {
  same : map entry_value l.left ≡ map entry_value l.right → map entry_value l.a ≡ map entry_value l.b;
}

abbrev pub decreases-entries : goal.decreases-entries
decreases-entries l = length l.left
