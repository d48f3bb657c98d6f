use Rattle.std.proofs.Common.{◌≡◌, ◌++◌, map}
use Rattle.std.specs.List.{flat_map, range_with_len}
use Rattle.pair_report.specs.PairCounts.{domain_line}
use Rattle.run_law.specs.Entries.{entries_of}
use Rattle.pair_report.proofs.cdp.push_domains.Given as goal

abbrev pub invariant-loop-domain : goal.invariant-loop-domain
invariant-loop-domain l = l.report ≡ l.initial.report ++ flat_map (domain_line l.script.machines.machine (map entries_of l.slices)) (range_with_len 0 l.domain)
