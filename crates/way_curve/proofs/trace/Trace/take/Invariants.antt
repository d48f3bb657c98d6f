use Rattle.std.proofs.Common.{◌≡◌, ◌+◌, length}
use Rattle.way_curve.specs.Reading.{ReadsOn, TraceValue}
use Rattle.way_curve.proofs.trace.Trace.take.Given as goal

abbrev pub invariant-loop-line : goal.invariant-loop-line
invariant-loop-line l = record {
  bytes : l.self.bytes + length l.left ≡ l.initial.self.bytes + length l.piece;
  read : (new : TraceValue) → ReadsOn l.self new l.left → ReadsOn l.initial.self new l.piece;
}

abbrev pub decreases-loop-line : goal.decreases-loop-line
decreases-loop-line l = length l.left
