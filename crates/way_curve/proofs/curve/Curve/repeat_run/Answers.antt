use Rattle.std.proofs.Common.{◌≡◌, ℕ, ◌+◌, ◌<◌, ◌++◌, length, sum, take, vec_len, rules, arith, sym, ap, ◌∙◌, subst}
use Rattle.std.specs.Prelude.{◌^◌}
use Rattle.std.specs.List.{range_with_len}
use Rattle.way_curve.specs.Distances.{uses_of_run}
use Rattle.way_curve.specs.IsCurve.{CurveValue, IsCurve}
use Rattle.way_curve.proofs.RepeatedRuns.{IsCurve-twice}
use Rattle.way_curve.proofs.curve.Curve.repeat_run.Goals as goal

pub invariant_of-self : goal.invariant_of-self
invariant_of-self c =
    let room : c.self.inside.uses + c.args.lines < 2 ^ 64 = subst (λ (v : CurveValue). v.uses + c.args.lines < 2 ^ 64) (sym c.self.view_is) c.requires.room in
    record {
      some = c.self.invariant.some;
      within = omega (arith, c.count_run.ensures.total, c.self.invariant.within);
      fits = omega (arith, room);
    }

pub returns-clause-again : goal.returns-clause-again
returns-clause-again c = λ earlier first curve.
    let sets : ℕ = length c.self.inside.recent.items in
    let full : length c.self.inside.at_distance ≡ 32 = search rules in
    let long : vec_len c.self.inside.recent ≡ sets = search rules in
    let number : c.len.result ≡ sets = c.len.ensures ∙ long in
    let is : IsCurve _ (earlier ++ range_with_len first c.args.lines) = subst (λ (v : CurveValue). IsCurve v (earlier ++ range_with_len first c.args.lines)) (sym c.self.view_is) curve in
    IsCurve-twice sets c.self.inside.uses c.self.inside.recent.items c.self.inside.at_distance c.count_run.new.uses first c.args.lines earlier c.self.invariant.some
    (λ most le. c.count_run.ensures.counted most (omega (arith, le, full)) ∙ ap (λ (n : ℕ). sum (take most c.self.inside.at_distance) + uses_of_run n c.args.lines most) number) is
