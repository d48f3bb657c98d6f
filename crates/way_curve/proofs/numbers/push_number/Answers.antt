use Rattle.std.proofs.Common.{arith}
use Rattle.std.proofs.lemmas.Fmt.{length-decimal-le}
use Rattle.way_curve.proofs.numbers.push_number.Goals as goal

pub returns-clause-spare : goal.returns-clause-spare
returns-clause-spare c =
    let digits = length-decimal-le 20 c.args.n (omega arith) (omega (arith, c.ranges.n.fits)) c.ranges.n.fits in
    omega (arith, digits, c.push_all.ensures.spare, c.push_dec.ensures.spare)
