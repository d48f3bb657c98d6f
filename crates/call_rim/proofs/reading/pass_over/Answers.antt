use Rattle.std.proofs.Common.{arith, rules}
use Rattle.std.proofs.lemmas.Grind.{common_steps}
use Rattle.call_rim.proofs.PassedRests.{Passes-piece}
use Rattle.call_rim.proofs.reading.pass_over.Goals as goal

pub pieces-preserved : goal.pieces-preserved
pieces-preserved g c =
    let left = g.S.Source.left in
    let read = c.in-Ok-read.ensures in
    record {
      faults = search rules;
      ends = search rules;
      passed = Passes-piece (left c.args.source.now) (left c.pieces.source) (left c.read.new.self) c.pieces.passed c.in-Ok-read.count c.read.new.into c.pieces.invariant.passed read.bytes.0 read.bound.0;
      within = grind (arith, common_steps);
      buffer = search rules;
    }
