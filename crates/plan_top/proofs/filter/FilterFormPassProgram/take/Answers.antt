use Rattle.std.proofs.Common.{◌++◌, ap}
use Rattle.rc_base.specs.Buffers.{Roomy}
use Rattle.plan_top.proofs.PassedTraces.{TakesByte-told}
use Rattle.plan_top.proofs.filter.FilterFormPassProgram.take.Goals as goal

pub returns-clause-taken : goal.returns-clause-taken
returns-clause-taken c = λ bytes written filtered.
    TakesByte-told c.args.self.now written c.take.new.out.bytes c.told.new.out.bytes c.told.result c.take.new.self (bytes ++ _) c.take.result
    (record { good = λ none. let good = c.told.ensures.good none in (good.0, ap (λ (out : Roomy). out.bytes) good.1); refused = c.told.ensures.refused }) (c.take.ensures.taken c.args.self.now bytes written filtered)
