use Rattle.std.proofs.Common.{◌≡◌, List, ℕ, Ok, subst}
use Rattle.std.proofs.lemmas.Result.{IfOk-weaker}
use Rattle.top_parts.specs.Meaning.{meaning}
use Rattle.way_plans.specs.AppliedTexts.{TellsAppliedPlan}
use Rattle.plan_top.specs.Plans.{ReportsPlan}
use Rattle.plan_top.specs.declared.divide_form.DivideForm.TheVariants.{Apply}
use Rattle.plan_top.proofs.apply.played_text.Goals as goal

pub returns : goal.returns
returns c =
    let script = c.args.script.now in
    let journals = c.in_ok-journals.journals in
    IfOk-weaker c.planned_text.result _ (λ text. (bytes : List ℕ) → meaning bytes ≡ Ok script → c.args.kept.now ≡ bytes → ReportsPlan Apply bytes text.items)
    (λ text tells bytes is same. record {
      script = script;
      journals = journals;
      is_script = is;
      is_run = c.in_ok-journals.ensures.run;
      plays = c.in_ok-journals.ensures.play;
      plan = subst (λ (bs : List ℕ). TellsAppliedPlan script journals bs text.items) same tells;
    })
    c.planned_text.ensures
