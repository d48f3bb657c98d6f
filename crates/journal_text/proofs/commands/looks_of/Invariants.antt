use Rattle.std.proofs.Common.{◌≡◌, ◌+◌, length}
use Rattle.journal_text.specs.Taken.{Takes}
use Rattle.journal_text.proofs.commands.looks_of.Given as goal

abbrev pub invariant-loop : goal.invariant-loop
invariant-loop l = record {
  takes : Takes l.looks.numbers l.left l.text;
  taken : length l.looks.numbers ≡ l.counter;
  room : l.looks.spare + l.counter ≡ l.count;
}
