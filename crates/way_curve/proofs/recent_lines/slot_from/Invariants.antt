use Rattle.std.proofs.Common.{◌≡◌, ◌≤◌, drop}
use Rattle.std.specs.List.{position_from}
use Rattle.way_curve.specs.Slots.{has_line, slots_of}
use Rattle.way_curve.proofs.recent_lines.slot_from.Given as goal

abbrev pub invariant-loop-slot : goal.invariant-loop-slot
invariant-loop-slot l = record {
  within : l.slot ≤ 32;
  none : position_from (has_line l.line) l.from (drop l.from (slots_of l.holes l.lines)) ≡ position_from (has_line l.line) l.slot (drop l.slot (slots_of l.holes l.lines));
}
