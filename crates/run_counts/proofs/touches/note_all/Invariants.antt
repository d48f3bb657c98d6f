use Rattle.std.proofs.Common.{◌≡◌, length, map, take}
use Rattle.run_counts.specs.Touches.{Notes}
use Rattle.run_law.specs.Entries.{entry_value}
use Rattle.run_counts.proofs.touches.note_all.Given as goal

abbrev pub invariant-loop-entry : goal.invariant-loop-entry
invariant-loop-entry l = record {
  size : length l.hits.items ≡ length l.fn.hits.items;
  hits : Notes (map entry_value l.tree) l.fn.hits.items l.hits.items (take l.entry-index l.entries);
}
