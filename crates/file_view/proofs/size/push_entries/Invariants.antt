use Rattle.std.proofs.Common.{◌≡◌, ◌≤◌, ◌*◌, ◌+◌, ◌++◌, length, take}
use Rattle.machine.specs.Maps.{parameters_of}
use Rattle.file_view.proofs.Sizes.{others_text}
use Rattle.file_view.proofs.size.push_entries.Given as goal

abbrev pub invariant-loop-a : goal.invariant-loop-a
invariant-loop-a l = record {
  bytes : l.out.bytes ≡ l.initial.out.bytes ++ others_text (parameters_of l.m) (take l.a-index l.others);
  spare : l.out.spare + length (others_text (parameters_of l.m) (take l.a-index l.others)) ≡ l.initial.out.spare;
  short : length (others_text (parameters_of l.m) (take l.a-index l.others)) ≤ 25 * l.a-index;
}
