use Rattle.std.proofs.Common.{◌≡◌, sym, ap, ◌∙◌, subst}
use Rattle.lackey_text.specs.Uses.{uses_of}
use Rattle.lackey_text.specs.declared.line.LackeyKind.{LackeyKind}
use Rattle.lackey_text.specs.declared.line.LackeyKind.TheVariants.{Modify}
use Rattle.lackey_text.specs.declared.line.LackeyLine.{LackeyLine}
use Rattle.lackey_text.specs.declared.line.LackeyLine.TheVariants.{Use}
use Rattle.way_curve.specs.Counting.{AddUses}
use Rattle.way_curve.proofs.curves.UseCurves.note_line.Goals as goal

pub returns-in-Use-Modify-default-default-clause-counted :
    goal.returns-in-Use-Modify-default-default-clause-counted
returns-in-Use-Modify-default-default-clause-counted c =
    let arm = c.in-Use-Modify-default-default in
    let modify = rw arm.is at arm.kind-is in
    let is : c.args.said.now ≡ Use Modify arm.addr arm.size = arm.is ∙ ap (λ (kind : LackeyKind). Use kind arm.addr arm.size) modify in
    subst (λ (said : LackeyLine). AddUses c.args.self.now c.note_modified.new.self (uses_of said)) (sym is) c.note_modified.ensures.counted
