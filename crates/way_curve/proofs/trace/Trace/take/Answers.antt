use Rattle.std.proofs.Common.{arith}
use Rattle.way_curve.proofs.WholeLines.{ReadsOn-line-and, length-cut}
use Rattle.way_curve.proofs.trace.Trace.take.Goals as goal

pub loop-line-preserved : goal.loop-line-preserved
loop-line-preserved c =
    let before = c.loop-line.invariant in
    let long = length-cut c.loop-line.left.now c.in-Some.line.now c.in-Some.rest.now c.in-Some.ensures.text in
    record {
      bytes = omega (arith, before.bytes, c.take_ended.ensures.bytes, long);
      read = λ new on. before.read new (ReadsOn-line-and c.loop-line.self c.take_ended.new.self new c.loop-line.left.now c.in-Some.line.now c.in-Some.rest.now c.in-Some.ensures.text c.take_ended.ensures.line on);
    }

pub returns-clause-piece : goal.returns-clause-piece
returns-clause-piece c = c.loop-line.invariant.read c.take_bytes.new.self c.take_bytes.ensures.read
