use Rattle.std.proofs.Common.{◌≡◌, ◌<◌, false, length, sym, ap, ◌∙◌, arith}
use Rattle.std.proofs.lemmas.Bool.{ne_eqb}
use Rattle.std.proofs.lemmas.Grind.{common_steps}
use Rattle.share_plans.specs.Reading.{StreamValue}
use Rattle.share_plans.proofs.Steps.{bad-long}
use Rattle.share_plans.proofs.stream.Stream.take_byte.Goals as goal

pub returns-else-len-le-MOST_LINE_BYTES-clause-byte : goal.returns-else-len-le-MOST_LINE_BYTES-clause-byte
returns-else-len-le-MOST_LINE_BYTES-clause-byte c = λ filtering text read.
    let s = c.args.self.now in
    let good : s.is_bad ≡ false = sym (ap (λ (v : StreamValue). v.is_bad) c.self.view_is) ∙ c.if-self.false in
    let full : 65536 < length c.self.inside.rest.items = grind (arith, common_steps) in
    let long : length c.self.inside.rest.items ≡ length s.rest = ap (λ (v : StreamValue). length v.rest) c.self.view_is in
    bad-long filtering s text good read c.self.inside.ended c.args.byte (ne_eqb c.args.byte 10 c.if-byte-eq10.false) (omega (arith, full, long)) (ap (λ (v : StreamValue). v.ended) c.self.view_is)
