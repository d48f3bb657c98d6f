use Rattle.std.proofs.Common.{◌≡◌, ◌+◌, ◌*◌, ◌-◌, ◌≤◌, ◌++◌, length}
use Rattle.pair_tree.specs.Printed.{others_text}
use Rattle.pair_tree.proofs.printing.push_others.Given as goal

abbrev pub invariant-loop-domain : goal.invariant-loop-domain
invariant-loop-domain l = record {
  bytes : l.out.bytes ++ others_text l.m l.g l.side l.domain ≡ l.initial.out.bytes ++ others_text l.m l.g l.side 1;
  spare : l.out.spare + length l.out.bytes ≡ l.initial.out.spare + length l.initial.out.bytes;
  short : length l.out.bytes ≤ length l.initial.out.bytes + 13 * (l.domain - 1);
  room : 144 ≤ l.initial.out.spare;
}
