use Rattle.std.proofs.Common.{◌≡◌, ◌++◌, false, map}
use Rattle.std.specs.List.{range_with_len}
use Rattle.json_report.specs.Domains.{domain_value}
use Rattle.json_report.specs.Pieces.{items_told}
use Rattle.json_report.proofs.domains.push_items.Given as goal

abbrev pub invariant-loop-domain : goal.invariant-loop-domain
invariant-loop-domain l = l.report ≡ l.initial.report ++ items_told false (map (domain_value l.run.script.now l.run.journals.now) (range_with_len 0 l.domain))
