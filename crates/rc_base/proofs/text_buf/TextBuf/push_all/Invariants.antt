use Rattle.std.proofs.Common.{◌≡◌, ◌++◌, take, vec_capacity}
use Rattle.rc_base.proofs.text_buf.TextBuf.push_all.Given as goal

abbrev pub invariant-loop-byte : goal.invariant-loop-byte
invariant-loop-byte l = record {
  items : l.self-inside.text.items ≡ l.initial.self-inside.text.items ++ take l.byte-index l.piece;
  room : vec_capacity l.self-inside.text ≡ vec_capacity l.initial.self-inside.text;
}
