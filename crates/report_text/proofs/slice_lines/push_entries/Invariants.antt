use Rattle.std.proofs.Common.{◌≡◌, ◌++◌, take}
use Rattle.machine.specs.Maps.{parameters_of}
use Rattle.report_text.specs.SliceLines.{entry_lines}
use Rattle.report_text.proofs.slice_lines.push_entries.Given as goal

abbrev pub invariant-loop-p : goal.invariant-loop-p
invariant-loop-p l = l.report ≡ l.initial.report ++ entry_lines (parameters_of l.machine) 0 (take l.p l.entries)
