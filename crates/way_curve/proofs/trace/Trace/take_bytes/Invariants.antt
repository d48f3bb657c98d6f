use Rattle.std.proofs.Common.{◌≡◌, ◌+◌, take}
use Rattle.way_curve.specs.Reading.{ReadsOn}
use Rattle.way_curve.proofs.trace.Trace.take_bytes.Given as goal

abbrev pub invariant-loop-byte : goal.invariant-loop-byte
invariant-loop-byte l = record { bytes : l.self.bytes ≡ l.initial.self.bytes + l.byte-index; read : ReadsOn l.initial.self l.self (take l.byte-index l.bytes) }
