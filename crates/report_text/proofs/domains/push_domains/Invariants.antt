use Rattle.std.proofs.Common.{◌≡◌, ◌++◌}
use Rattle.std.specs.List.{flat_map, range_with_len}
use Rattle.report_text.specs.Domains.{domain_line}
use Rattle.report_text.proofs.domains.push_domains.Given as goal

abbrev pub invariant-loop-domain : goal.invariant-loop-domain
invariant-loop-domain l = l.report ≡ l.initial.report ++ flat_map (domain_line l.script l.journals) (range_with_len 0 l.domain)
