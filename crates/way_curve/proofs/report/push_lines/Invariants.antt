use Rattle.std.proofs.Common.{◌≡◌, ℕ, ◌+◌, ◌*◌, ◌≤◌, List, ◌++◌}
use Rattle.way_curve.specs.Counting.{IsCurveOf}
use Rattle.way_curve.specs.CurveTexts.{curve_lines}
use Rattle.way_curve.proofs.report.push_lines.Given as goal

abbrev pub invariant-loop-fewer : goal.invariant-loop-fewer
invariant-loop-fewer l = record {
  bytes : (sets : ℕ) (lines : List ℕ) → IsCurveOf sets l.curve lines → l.out.bytes ≡ l.initial.out.bytes ++ curve_lines l.scale sets l.fewer lines;
  spare : l.initial.out.spare ≤ l.out.spare + 161 * l.fewer;
}
