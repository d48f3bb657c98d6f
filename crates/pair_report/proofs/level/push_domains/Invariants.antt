use Rattle.std.proofs.Common.{◌≡◌, ◌++◌, map}
use Rattle.std.specs.List.{flat_map, range_with_len}
use Rattle.pair_text.specs.Values.{side_machine}
use Rattle.pair_report.specs.LevelReport.{level_domain_line}
use Rattle.run_law.specs.Entries.{entries_of}
use Rattle.pair_report.proofs.level.push_domains.Given as goal

abbrev pub invariant-loop-domain : goal.invariant-loop-domain
invariant-loop-domain l = l.report ≡ l.initial.report ++ flat_map (level_domain_line l.side (side_machine l.script.machines l.side) (map entries_of l.caches.entries.now)) (range_with_len 0 l.domain)
