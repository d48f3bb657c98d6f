use Rattle.std.proofs.Common.{◌≡◌, ◌++◌, map, take}
use Rattle.std.specs.List.{flat_map}
use Rattle.pair_report.specs.LevelReport.{group_line}
use Rattle.pair_report.specs.LinesBefore.{group_made}
use Rattle.run_law.specs.Entries.{entries_of}
use Rattle.pair_report.proofs.level_groups.push_made.Given as goal

abbrev pub invariant-loop-group : goal.invariant-loop-group
invariant-loop-group l = l.report ≡ l.initial.report ++ flat_map (group_line (map entries_of l.l2.entries.now) (map entries_of l.l3.entries.now)) (map (group_made l.script) (take l.group-index l.made))
