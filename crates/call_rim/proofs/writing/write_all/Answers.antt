use Rattle.std.proofs.Common.{◌-◌, ◌≤◌, drop, arith, subst, ◌∙◌}
use Rattle.std.proofs.lemmas.List.{take-take, length-take, length-drop}
use Rattle.std.specs.Io.KnownBytes.{Appends}
use Rattle.call_rim.proofs.WrittenBytes.{Appends-more, AppendsSome-kept}
use Rattle.call_rim.proofs.writing.write_all.Goals as goal

pub loop-at-preserved : goal.loop-at-preserved
loop-at-preserved g c =
    let bytes = c.args.bytes.now in
    let at = c.loop-at.at in
    let n = c.in-Ok.count in
    let told = c.in-Ok.ensures in
    let piece = c.min-end.result - at in
    let within : n ≤ piece = omega (arith, told.bound, length-take piece (drop at bytes)) in
    record {
      within = omega (arith, told.bound, length-take piece (drop at bytes), length-drop at bytes);
      faults = told.cause.kept ∙ c.loop-at.invariant.faults;
      bytes = Appends-more (g.K.Sink.taken c.args.sink.now) (g.K.Sink.taken c.loop-at.sink) (g.K.Sink.taken c.write.new.self) bytes at n c.loop-at.invariant.bytes
          (subst (λ l. Appends (g.K.Sink.taken c.loop-at.sink) (g.K.Sink.taken c.write.new.self) l) (take-take n piece (drop at bytes) within) told.bytes);
    }

pub returns-in-Err-clause-err : goal.returns-in-Err-clause-err
returns-in-Err-clause-err g c = record {
  taken = AppendsSome-kept (g.K.Sink.taken c.args.sink.now) (g.K.Sink.taken c.loop-at.sink) (g.K.Sink.taken c.write.new.self) c.args.bytes.now c.loop-at.at c.loop-at.invariant.bytes c.in-Err.ensures.bytes;
  fault = let risen = c.in-Err.ensures.cause.failed in omega (arith, risen, c.loop-at.invariant.faults);
}
