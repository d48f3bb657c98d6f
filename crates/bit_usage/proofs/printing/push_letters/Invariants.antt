use Rattle.std.proofs.Common.{◌≡◌, ◌+◌, ◌++◌}
use Rattle.bit_usage.specs.Usage.{letters_of}
use Rattle.bit_usage.proofs.printing.push_letters.Given as goal

abbrev pub invariant-loop-bit : goal.invariant-loop-bit
invariant-loop-bit l = record {
  bytes : l.out.bytes ++ letters_of l.used l.bit ≡ l.initial.out.bytes ++ letters_of l.used l.ways;
  spare : l.out.spare + l.ways ≡ l.initial.out.spare + l.bit;
}
