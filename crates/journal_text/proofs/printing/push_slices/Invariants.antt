use Rattle.std.proofs.Common.{◌≡◌, ◌++◌, take}
use Rattle.journal_text.specs.Lines.{lines_from, text_of}
use Rattle.machine.specs.Maps.{parameters_of}
use Rattle.journal_text.proofs.printing.push_slices.Given as goal

abbrev pub invariant-loop-slice : goal.invariant-loop-slice
invariant-loop-slice l = l.text ≡ l.initial.text ++ text_of (lines_from (parameters_of l.machine) 0 (take l.slice l.journals.slices))
