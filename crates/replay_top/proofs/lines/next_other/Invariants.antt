use Rattle.std.proofs.Common.{◌≡◌, ◌≤◌, length}
use Rattle.replay_top.specs.Lines.{other_lines}
use Rattle.replay_top.proofs.lines.next_other.Given as goal

abbrev pub invariant-lines : goal.invariant-lines
invariant-lines l = record {
  same : other_lines l.text ≡ other_lines l.left;
  short : length l.left ≤ length l.text;
}

abbrev pub decreases-lines : goal.decreases-lines
decreases-lines l = length l.left
