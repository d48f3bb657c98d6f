use Rattle.std.proofs.Common.{◌≡◌, ℕ, List, ◌++◌, ap, ◌∙◌}
use Rattle.way_curve.specs.CurveTexts.{curves_text}
use Rattle.plan_top.specs.CurveForms.{filtering_of}
use Rattle.plan_top.proofs.program.report.Goals as goal

pub returns : goal.returns
returns c = λ uses have.
    let form = c.args.form.now in
    let told : List ℕ = curves_text form.levels form.one_of form.is_scaled form.has_first form.sets form.ways uses in
    let first = c.in_ok-first.ensures (filtering_of form) uses have in
    let pushed : c.push_curves.new.out.bytes ≡ told = c.push_curves.ensures uses have first ∙ ap (λ (text : List ℕ). text ++ told) c.in_ok-text.ensures.empty in
    cc (c.in_ok-bytes.ensures.items, c.bytes.ensures, pushed)
