use Rattle.std.proofs.Common.{◌≡◌, ℕ, List, ◌++◌, Option, sym, ap, ◌∙◌, subst, append_assoc}
use Rattle.way_curve.specs.Counting.{CurvesValue, HaveCounted}
use Rattle.way_curve.specs.CurveTexts.{levels_text, report_of, sample_text}
use Rattle.way_curve.specs.FirstLevels.{left_by}
use Rattle.way_curve.specs.Samples.{sample_sets, sampled, scale_of}
use Rattle.way_curve.specs.declared.first_levels.LevelShapes.{LevelShapes}
use Rattle.plan_top.proofs.program.push_curves.Goals as goal

pub returns : goal.returns
returns c = λ uses have is_first.
    let form = c.args.form.now in
    let sets = sample_sets form.one_of form.sets in
    let counted = sampled form.one_of (left_by form.levels uses) in
    let old = c.args.out.now.bytes in
    let above = c.push_levels.new.out.bytes in
    let mid = c.push_sample.new.out.bytes in
    let scale = scale_of form.is_scaled form.one_of in
    let line = sample_text form.one_of sets in
    let first : above ≡ old ++ levels_text form.levels = c.push_levels.ensures.bytes ∙ ap (λ (shapes : LevelShapes). old ++ levels_text shapes) c.levels.ensures.levels in
    let next : mid ≡ above ++ line = c.push_sample.ensures.bytes
    ∙ (ap (λ (o : Option ℕ). above ++ sample_text o c.sample_sets.result) c.one_of.ensures ∙ ap (λ (n : ℕ). above ++ sample_text form.one_of n) c.sample_sets.ensures.sets) in
    let have_counted : HaveCounted sets c.counted.result.now counted = subst (λ (v : CurvesValue). HaveCounted sets v counted) (sym c.counted.ensures) have.counted.counted in
    let last : c.push_report.new.out.bytes ≡ mid ++ report_of scale form.has_first sets form.ways counted = c.push_report.ensures form.has_first sets counted have_counted is_first
    ∙ (ap (λ (w : ℕ). mid ++ report_of c.scale.result form.has_first sets w counted) c.ways.ensures.ways
    ∙ ap (λ (o : Option ℕ). mid ++ report_of o form.has_first sets form.ways counted) c.scale.ensures) in
    let both : mid ≡ old ++ (levels_text form.levels ++ line) = next ∙ (ap (λ (text : List ℕ). text ++ line) first ∙ append_assoc old (levels_text form.levels) line) in
    last
    ∙ (ap (λ (text : List ℕ). text ++ report_of scale form.has_first sets form.ways counted) both ∙ append_assoc old (levels_text form.levels ++ line) (report_of scale form.has_first sets form.ways counted))
