use Rattle.std.proofs.Common.{◌≡◌, ◌≤◌, ◌+◌, length}
use Rattle.check_parts.specs.Division.{division_from, division_of}
use Rattle.journal_text.specs.Readings.{parts_of}
use Rattle.check_parts.proofs.division.divide.Given as goal

abbrev pub invariant-lines : goal.invariant-lines
invariant-lines l = record {
  division : division_of l.bytes ≡ division_from l.before (parts_of l.left);
  within : l.before.bytes + length l.left ≤ length l.bytes;
  few : l.before.lines ≤ l.before.bytes;
}

abbrev pub decreases-lines : goal.decreases-lines
decreases-lines l = length l.left
