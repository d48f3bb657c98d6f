use Rattle.std.proofs.Common.{◌≡◌, ◌<◌, length, ap, arith}
use Rattle.std.proofs.lemmas.Bool.{ne_eqb}
use Rattle.std.proofs.lemmas.Grind.{common_steps}
use Rattle.way_curve.specs.Joining.{JoinerValue}
use Rattle.way_curve.proofs.JoinSteps.{bad-long}
use Rattle.way_curve.proofs.line_joiner.LineJoiner.take.Goals as goal

pub returns-else-len-le-MOST_LINE_BYTES-clause-byte : goal.returns-else-len-le-MOST_LINE_BYTES-clause-byte
returns-else-len-le-MOST_LINE_BYTES-clause-byte c = λ text uses joins.
    let j = c.args.self.now in
    let full : 65536 < length c.self.inside.rest.items = grind (arith, common_steps) in
    let long : length c.self.inside.rest.items ≡ length j.rest = ap (λ (v : JoinerValue). length v.rest) c.self.view_is in
    bad-long j text uses joins c.args.byte (ne_eqb c.args.byte 10 c.if-byte-eq10.false) (omega (arith, full, long))
