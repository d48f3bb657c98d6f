use Rattle.std.proofs.Common.{◌≡◌, ◌≤◌, ◌*◌, ◌+◌, ◌++◌, length, take}
use Rattle.schemata_text.proofs.laws.Entries.{others_text}
use Rattle.schemata_text.proofs.printing.print.Given as goal

abbrev pub invariant-loop-a : goal.invariant-loop-a
invariant-loop-a l = record {
  bytes : l.out.bytes ≡ l.initial.out.bytes ++ others_text l.ways (take l.a-index l.others);
  spare : l.out.spare + length (others_text l.ways (take l.a-index l.others)) ≡ l.initial.out.spare;
  short : length (others_text l.ways (take l.a-index l.others)) ≤ 13 * l.a-index;
}
