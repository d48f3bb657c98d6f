use Rattle.std.proofs.Common.{arith, ap}
use Rattle.std.proofs.lemmas.List.Sums.{sum_by-take-le}
use Rattle.way_curve.specs.IsCurve.{CurveValue}
use Rattle.way_curve.proofs.curve.Curve.hits.Goals as goal

pub total-requires : goal.total-requires
total-requires c = omega (arith, sum_by-take-le (λ x. x) c.self.inside.at_distance c.args.ways)

pub returns-clause-within : goal.returns-clause-within
returns-clause-within c =
    omega (arith, sum_by-take-le (λ x. x) c.self.inside.at_distance c.args.ways, c.total.ensures, ap (λ (v : CurveValue). v.uses) c.self.view_is)
