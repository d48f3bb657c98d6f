use Rattle.std.proofs.Common.{◌≡◌, ◌+◌, ◌*◌, ◌≤◌, ◌++◌, length, map, take}
use Rattle.path_names.specs.PathTable.{fixed_name}
use Rattle.file_view.specs.Lines.{on_lines}
use Rattle.file_view.proofs.fixed.push_entries.Given as goal

abbrev pub invariant-loop-entry : goal.invariant-loop-entry
invariant-loop-entry l = record {
  bytes : l.out.bytes ≡ l.initial.out.bytes ++ on_lines (map fixed_name (take l.entry-index l.entries));
  spare : l.out.spare + length (on_lines (map fixed_name (take l.entry-index l.entries))) ≡ l.initial.out.spare;
  short : length (on_lines (map fixed_name (take l.entry-index l.entries))) ≤ 24 * l.entry-index;
}
