use Rattle.std.proofs.Common.{◌≡◌, ◌≤◌, ◌+◌, take}
use Rattle.way_plans.specs.GroupItems.{items_among}
use Rattle.way_plans.specs.Noted.{AddsItems}
use Rattle.way_plans.proofs.slice_lines.note_among.Given as goal

abbrev pub invariant-loop-entry : goal.invariant-loop-entry
invariant-loop-entry l = record {
  sets : l.curve.sets ≡ l.initial.curve.sets;
  few : l.curve.uses ≤ l.initial.curve.uses + l.entry-index;
  items : AddsItems l.initial.curve l.curve (items_among l.gid.0 (take l.entry-index l.entries));
}
