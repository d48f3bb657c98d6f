use Rattle.std.proofs.Common.{◌≡◌, ◌++◌, map, take}
use Rattle.std.specs.List.{flat_map}
use Rattle.pair_report.specs.CdpReport.{group_line}
use Rattle.pair_report.specs.LinesBefore.{group_made}
use Rattle.run_law.specs.Entries.{entries_of}
use Rattle.pair_report.proofs.cdp_groups.push_made.Given as goal

abbrev pub invariant-loop-group : goal.invariant-loop-group
invariant-loop-group l = l.report ≡ l.initial.report ++ flat_map (group_line (map entries_of l.slices)) (map (group_made l.script) (take l.group-index l.made))
