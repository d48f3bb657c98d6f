use Rattle.std.proofs.Common.{◌≡◌, ◌∙◌, ◌++◌, Bool, cond, subst, sym}
use Rattle.std.specs.Prelude.{OnOk}
use Rattle.way_plans.specs.AppliedTexts.{phase_lines, undivided_lines}
use Rattle.way_plans.specs.Values.{parts_of}
use Rattle.way_plans.proofs.applied.push_added.Goals as goal

pub returns : goal.returns
returns c =
    let names = c.args.script.now.names in
    let ways = c.args.script.now.machine.ways in
    let parts = parts_of c.args.plans.now in
    subst (λ (b : Bool). OnOk c.push_phase.result (c.push_phase.new.text ≡ c.args.text.now ++ cond b (phase_lines names ways c.args.groups.now parts) (undivided_lines 0 parts)))
    (sym c.if-not-is_whole.false ∙ c.is_whole.ensures) c.push_phase.ensures
