use Rattle.std.proofs.Common.{◌≡◌, ◌++◌, length}
use Rattle.report_pieces.specs.Pieces.{barred}
use Rattle.report_pieces.proofs.replies.push_barred.Given as goal

abbrev pub invariant-loop-line : goal.invariant-loop-line
invariant-loop-line l = l.report ++ barred l.left ≡ l.initial.report ++ barred l.file

abbrev pub decreases-loop-line : goal.decreases-loop-line
decreases-loop-line l = length l.left
