use Rattle.std.proofs.Common.{◌≡◌, length}
use Rattle.replay_top.specs.Lines.{other_lines}
use Rattle.replay_top.proofs.lines.has_same_lines.Given as goal

abbrev pub invariant-lines : goal.invariant-lines
invariant-lines l = record {
  same : other_lines l.left ≡ other_lines l.right → other_lines l.text ≡ other_lines l.other;
}

abbrev pub decreases-lines : goal.decreases-lines
decreases-lines l = length l.left
