use Rattle.std.proofs.Common.{◌∙◌, ap}
use Rattle.std.proofs.lemmas.Result.{IfOk-weaker}
use Rattle.way_plans.specs.AppliedTexts.{TellsAppliedPlan, applied_text}
use Rattle.way_plans.specs.Values.{parts_of}
use Rattle.plan_top.proofs.apply.planned_text.Goals as goal

pub returns : goal.returns
returns c =
    let script = c.args.script.now in
    let bytes = c.args.bytes.now in
    let parts = parts_of c.in_ok-plan.plan.domains.items in
    IfOk-weaker c.applied_plan.result _ (λ text. TellsAppliedPlan script c.args.journals.now bytes text.items)
    (λ text is. record {
      parts = parts;
      are_parts = c.in_ok-plan.ensures.parts;
      is_text = is ∙ ap (λ groups. applied_text bytes script.names script.machine.ways groups parts) c.in_ok-plan.ensures.groups;
    })
    c.applied_plan.ensures
