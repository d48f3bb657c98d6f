use Rattle.std.proofs.Common.{◌≡◌, Err, subst}
use Rattle.pair_text.specs.PairReading.{PairFaultAt, pair_script_of}
use Rattle.pair_text.specs.declared.kind.PairKind.{PairKind}
use Rattle.pair_top.proofs.Refused.{Performs-refused}
use Rattle.pair_top.specs.Reports.{Plays}
use Rattle.pair_top.proofs.playing.PairProgramProgram.perform.Goals as goal

pub returns-in-Err-Bad : goal.returns-in-Err-Bad
returns-in-Err-Bad g c =
    let fault : PairFaultAt = record { line = c.in-Err-Bad.line; what = c.in-Err-Bad.what } in
    let bad : pair_script_of c.kind.result c.args.bytes.items ≡ Err fault = rw c.in-Err-Bad.field-0-is at c.in-Err-Bad.ensures.said in
    let j = g.J.PairJournals in
    Performs-refused j.kind (Plays j.kind j.run j.isolated j.listed j.report_of c.args.self.now.quiet) c.args.bytes.items fault c.refuse.result (subst (λ (kind : PairKind). pair_script_of kind c.args.bytes.items ≡ Err fault) c.kind.ensures bad) c.refuse.ensures
