use Rattle.std.proofs.Common.{List, ◌++◌, length, ap, ◌∙◌, arith}
use Rattle.std.proofs.lemmas.List.Elements.{All-same}
use Rattle.share_plans.specs.declared.program.Program.{Program}
use Rattle.plan_top.specs.ShareForms.{programs_from}
use Rattle.plan_top.proofs.Programs.{All-programs_from, IsLightOne, length-programs_from}
use Rattle.plan_top.proofs.share.programs_of.Goals as goal

pub returns-clause-few : goal.returns-clause-few
returns-clause-few c =
    let wishes = c.wishes.result.now in
    let same = c.in_ok-push_programs.ensures ∙ ap (λ (ps : List Program). ps ++ programs_from 0 wishes) c.new-programs.ensures.items in
    let counts = ap length same ∙ length-programs_from 0 wishes in
    omega (arith, counts, c.wishes.ensures.few)

pub returns-clause-weights : goal.returns-clause-weights
returns-clause-weights c =
    let wishes = c.wishes.result.now in
    let same = c.in_ok-push_programs.ensures ∙ ap (λ (ps : List Program). ps ++ programs_from 0 wishes) c.new-programs.ensures.items in
    All-same IsLightOne c.push_programs.new.programs.items (programs_from 0 wishes) same (All-programs_from 0 wishes c.wishes.ensures.weights)
