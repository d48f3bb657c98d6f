use Rattle.std.proofs.Common.{◌≡◌, ◌++◌, map, take}
use Rattle.journal_text.specs.Lines.{entry_line, text_of}
use Rattle.journal_text.proofs.printing.push_entries.Given as goal

abbrev pub invariant-loop-entry : goal.invariant-loop-entry
invariant-loop-entry l = l.text ≡ l.initial.text ++ text_of (map entry_line (take l.entry-index l.entries))
