use Rattle.std.proofs.Common.{◌≡◌, ◌≤◌, ◌+◌, length}
use Rattle.std.specs.Str.Lines.{lines}
use Rattle.script_text.specs.States.{state_of, IsSound, IsReady}
use Rattle.script_text.specs.Reading.{reading_from}
use Rattle.script_text.proofs.reading.read_lines.Given as goal

abbrev pub invariant-lines : goal.invariant-lines
invariant-lines l = record {
  said : reading_from 0 (state_of l.initial.reader) (lines l.text) ≡ reading_from l.number (state_of l.reader) (lines l.left);
  few : l.number + length l.left ≤ length l.text;
  sound : IsSound (state_of l.reader);
  ready : IsReady (state_of l.reader);
}

abbrev pub decreases-lines : goal.decreases-lines
decreases-lines l = length l.left
