use Rattle.std.proofs.Common.{◌≡◌, ◌++◌, take, vec_capacity}
use Rattle.rc_stream.proofs.mem_sink.append.Given as goal

abbrev pub invariant-loop-byte : goal.invariant-loop-byte
invariant-loop-byte l = record {
  items : l.to.items ≡ l.initial.to.items ++ take l.byte-index l.piece;
  room : vec_capacity l.to ≡ vec_capacity l.initial.to;
}
