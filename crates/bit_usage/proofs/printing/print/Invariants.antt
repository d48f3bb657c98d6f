use Rattle.std.proofs.Common.{◌≡◌, ◌+◌, ◌*◌, ◌++◌, ◌≤◌, length, take}
use Rattle.bit_usage.specs.Usage.{usage_text}
use Rattle.bit_usage.proofs.printing.print.Given as goal

abbrev pub invariant-loop-id : goal.invariant-loop-id
invariant-loop-id l = record {
  bytes : l.out.bytes ≡ l.initial.out.bytes ++ usage_text l.ways (take l.id l.used);
  spare : l.out.spare + length (usage_text l.ways (take l.id l.used)) ≡ l.initial.out.spare;
  room : length (usage_text l.ways (take l.id l.used)) ≤ l.id * 35;
}
