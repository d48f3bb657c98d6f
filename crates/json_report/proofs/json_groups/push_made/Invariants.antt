use Rattle.std.proofs.Common.{◌≡◌, ◌++◌, true, map, take}
use Rattle.json_report.specs.Groups.{group_value}
use Rattle.json_report.specs.Pieces.{items_told}
use Rattle.run_replay.specs.Made.{control_of}
use Rattle.json_report.proofs.json_groups.push_made.Given as goal

abbrev pub invariant-loop-group : goal.invariant-loop-group
invariant-loop-group l = l.report ≡ l.initial.report ++ items_told true (map (group_value l.run.script.now l.run.journals.now) (map (control_of l.run.script.now.names) (take l.group-index l.made)))
