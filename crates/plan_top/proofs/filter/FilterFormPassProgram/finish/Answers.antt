use Rattle.std.proofs.Common.{ap}
use Rattle.rc_base.specs.Buffers.{Roomy}
use Rattle.plan_top.proofs.PassedTraces.{EndsAs-told}
use Rattle.plan_top.proofs.filter.FilterFormPassProgram.finish.Goals as goal

pub returns : goal.returns
returns c = λ bytes written filtered.
    EndsAs-told c.args.self.now written c.finish.new.out.bytes c.told.new.out.bytes c.told.result bytes c.finish.result
    (record { good = λ none. let good = c.told.ensures.good none in (good.0, ap (λ (out : Roomy). out.bytes) good.1); refused = c.told.ensures.refused }) (c.finish.ensures.ends c.args.self.now bytes written filtered)
