use Rattle.std.proofs.Common.{◌∙◌, sym, ap, subst}
use Rattle.check_parts.proofs.KeptParts.{IfOk-map}
use Rattle.check_parts.specs.JudgedSlices.{IsFound, journals_of}
use Rattle.machine.specs.Slices.{slice_count}
use Rattle.check_parts.proofs.judged_slices.JudgedSlices.verdict.Goals as goal

pub returns-in-Some : goal.returns-in-Some
returns-in-Some c =
    λ all count more is.
    let script = c.args.script.now in
    let left = c.args.left in
    let are = c.in_ok-found.ensures.judged all (count ∙ sym (c.slice_count-count.ensures.count ∙ ap slice_count c.machine.ensures)) is in
    let found = subst (IsFound script (journals_of left.tree all)) c.in-Some.is are.found in
    found.1

pub returns-in-None : goal.returns-in-None
returns-in-None c =
    let script = c.args.script.now in
    let left = c.args.left in
    IfOk-map c.verdict_by_looks.result
    (λ verdict told all count more is.
    (let are = c.in_ok-found.ensures.judged all (count ∙ sym (c.slice_count-count.ensures.count ∙ ap slice_count c.machine.ensures)) is in
    told all count more (subst (IsFound script (journals_of left.tree all)) c.in-None.is are.found) (are.looks c.in-None.is)))
    c.verdict_by_looks.ensures
