use Rattle.std.proofs.Common.{◌≡◌, ◌++◌}
use Rattle.std.specs.List.{flat_map, range_with_len}
use Rattle.report_text.specs.SliceLines.{slice_text}
use Rattle.report_text.proofs.slice_lines.push_domain_slices.Given as goal

abbrev pub invariant-loop-slice : goal.invariant-loop-slice
invariant-loop-slice l = l.report ≡ l.initial.report ++ flat_map (slice_text l.script l.journals l.domain) (range_with_len 0 l.slice)
