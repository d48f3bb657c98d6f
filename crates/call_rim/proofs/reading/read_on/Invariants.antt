use Rattle.std.proofs.Common.{◌≡◌, ◌≤◌, ◌+◌, ◌-◌, List, ℕ, Option, vec_len}
use Rattle.std.specs.Io.KnownBytes.{Consumes}
use Rattle.call_rim.proofs.reading.read_on.Given as goal

abbrev pub invariant-pieces : goal.invariant-pieces
invariant-pieces g l = record {
  faults : g.S.Source.faults l.source ≡ g.S.Source.faults l.initial.source;
  ends : g.S.Source.ends l.source ≡ g.S.Source.ends l.initial.source;
  bytes : (start : Option (List ℕ)) → Consumes start (g.S.Source.left l.initial.source) l.initial.bytes.items → Consumes start (g.S.Source.left l.source) l.bytes.items;
  room : vec_len l.bytes ≤ l.most + 1;
  buffer : vec_len l.buffer ≡ 65536;
}

abbrev pub decreases-pieces : goal.decreases-pieces
decreases-pieces g l = l.most + 1 - vec_len l.bytes
