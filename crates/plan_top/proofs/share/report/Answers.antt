use Rattle.std.proofs.Common.{ℕ, List, ◌∙◌}
use Rattle.std.proofs.lemmas.Result.{IfOk-weaker}
use Rattle.share_plans.specs.Reading.{AreOf}
use Rattle.share_plans.specs.Reports.{ReportsShares}
use Rattle.plan_top.specs.ShareForms.{programs_of}
use Rattle.plan_top.specs.Shares.{asked_by}
use Rattle.plan_top.proofs.Programs.{ReportsShares-played}
use Rattle.plan_top.proofs.share.report.Goals as goal

pub returns : goal.returns
returns c =
    let form = c.args.form.now in
    let played = c.args.played.now in
    IfOk-weaker c.share_report.result _ (λ text. (bytes : List ℕ) → AreOf (asked_by form) played bytes → ReportsShares form.goal form.levels form.sets form.ways (programs_of form) bytes text.items)
    (λ text made bytes are. ReportsShares-played form c.goal.result c.ways.result c.deref.result.now played bytes text.items
    c.goal.ensures c.ways.ensures.ways (c.deref.ensures.value ∙ c.in_ok-programs.ensures.programs) made are)
    c.share_report.ensures
