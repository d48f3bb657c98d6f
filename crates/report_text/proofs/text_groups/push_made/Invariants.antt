use Rattle.std.proofs.Common.{◌≡◌, ◌++◌, map, take}
use Rattle.std.specs.List.{flat_map}
use Rattle.run_replay.specs.Made.{control_of}
use Rattle.report_text.specs.Reporting.{group_line}
use Rattle.report_text.proofs.text_groups.push_made.Given as goal

abbrev pub invariant-loop-group : goal.invariant-loop-group
invariant-loop-group l = l.report ≡ l.initial.report ++ flat_map (group_line l.script l.journals) (map (control_of l.script.names) (take l.group-index l.made))
