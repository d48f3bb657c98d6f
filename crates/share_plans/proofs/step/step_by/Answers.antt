use Rattle.std.proofs.Common.{◌≡◌, ◌+◌, ◌*◌, ◌≤◌, length, sym, subst}
use Rattle.std.proofs.lemmas.Option.{IfSome_then}
use Rattle.lackey_text.specs.Uses.{uses_of}
use Rattle.lackey_text.specs.declared.line.LackeyLine.{LackeyLine}
use Rattle.share_plans.specs.declared.step.Step.{Step}
use Rattle.share_plans.proofs.FewUses.{length-uses_of_line}
use Rattle.share_plans.proofs.step.step_by.Goals as goal

pub returns-in-Ok-clause-few : goal.returns-in-Ok-clause-few
returns-in-Ok-clause-few c =
    let line = c.args.line.now in
    let few : length (uses_of c.in-Ok.said) ≤ 65 * (length line + 1) = length-uses_of_line line c.in-Ok.said c.in-Ok.ensures.said c.in-Ok.ensures.in_memory in
    IfSome_then c.said_in.result {P = λ (step : Step). step.said ≡ c.in-Ok.said} {Q = λ (step : Step). length (uses_of step.said) ≤ 65 * (length line + 1)} c.said_in.ensures.said
    (λ step same. subst (λ (said : LackeyLine). length (uses_of said) ≤ 65 * (length line + 1)) (sym same) few)
