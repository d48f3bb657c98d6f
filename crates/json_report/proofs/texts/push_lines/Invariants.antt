use Rattle.std.proofs.Common.{◌≡◌, ◌++◌, false, length, map}
use Rattle.std.specs.Str.Lines.{lines}
use Rattle.json_report.specs.Pieces.{items_told}
use Rattle.serde_json.specs.Data.{string}
use Rattle.json_report.proofs.texts.push_lines.Given as goal

abbrev pub invariant-loop-line : goal.invariant-loop-line
invariant-loop-line l = l.report ++ items_told l.later (map string (lines l.left)) ≡ l.initial.report ++ items_told false (map string (lines l.text))

abbrev pub decreases-loop-line : goal.decreases-loop-line
decreases-loop-line l = length l.left
