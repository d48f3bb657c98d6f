use Rattle.std.proofs.Common.{◌≡◌, ◌++◌, take}
use Rattle.journal_text.specs.Lines.{fields}
use Rattle.journal_text.proofs.pushing.push_fields.Given as goal

abbrev pub invariant-loop-n : goal.invariant-loop-n
invariant-loop-n l = l.text ≡ l.initial.text ++ fields (take l.n-index l.numbers)
