use Rattle.std.proofs.Common.{◌≡◌, ◌≤◌, ◌+◌, take}
use Rattle.way_plans.specs.Comparisons.{shared_among}
use Rattle.way_plans.specs.Noted.{AddsItems}
use Rattle.way_plans.proofs.shared_lines.note_among.Given as goal

abbrev pub invariant-loop-entry : goal.invariant-loop-entry
invariant-loop-entry l = record {
  sets : l.curve.sets ≡ l.initial.curve.sets;
  few : l.curve.uses ≤ l.initial.curve.uses + l.entry-index;
  items : AddsItems l.initial.curve l.curve (shared_among l.groups (take l.entry-index l.entries));
}
