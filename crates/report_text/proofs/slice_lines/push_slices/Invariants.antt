use Rattle.std.proofs.Common.{◌≡◌, ◌++◌}
use Rattle.std.specs.List.{flat_map, range_with_len}
use Rattle.report_text.specs.SliceLines.{domain_slices}
use Rattle.report_text.proofs.slice_lines.push_slices.Given as goal

abbrev pub invariant-loop-domain : goal.invariant-loop-domain
invariant-loop-domain l = l.report ≡ l.initial.report ++ flat_map (domain_slices l.script l.journals) (range_with_len 0 l.domain)
