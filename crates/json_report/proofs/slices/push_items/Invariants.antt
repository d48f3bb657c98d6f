use Rattle.std.proofs.Common.{◌≡◌, ◌++◌, false, take}
use Rattle.json_report.specs.Pieces.{items_told}
use Rattle.json_report.specs.SliceValues.{entry_values}
use Rattle.machine.specs.Maps.{parameters_of}
use Rattle.json_report.proofs.slices.push_items.Given as goal

abbrev pub invariant-loop-p : goal.invariant-loop-p
invariant-loop-p l = l.report ≡ l.initial.report ++ items_told false (entry_values (parameters_of l.machine) 0 (take l.p l.entries))
