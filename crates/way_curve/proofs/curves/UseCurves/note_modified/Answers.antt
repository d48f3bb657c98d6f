use Rattle.std.proofs.Common.{◌≡◌, ℕ, ◌+◌, ◌-◌, ◌/◌, ◌++◌, false, arith, sym, ap, subst}
use Rattle.std.proofs.lemmas.List.FromFn.{length-map-range_with_len}
use Rattle.lackey_text.specs.declared.uses.LineUse.{LineUse}
use Rattle.way_curve.specs.Counting.{CurvesValue, HaveCounted}
use Rattle.way_curve.specs.IsCurve.{RepeatsRun}
use Rattle.way_curve.proofs.ModifiedLines.{HaveCounted-twice, run_of}
use Rattle.way_curve.proofs.curves.UseCurves.note_modified.Goals as goal

pub returns-clause-counted : goal.returns-clause-counted
returns-clause-counted c = λ sets uses have.
    let first : ℕ = c.args.addr / 64 in
    let n : ℕ = (c.args.addr + c.args.size - 1) / 64 + 1 - first in
    let one : ℕ → LineUse = λ (line : ℕ). record { line = line; code = false } in
    let old : CurvesValue = record { uses = c.self.inside.of_all.uses; of_data = c.self.inside.of_data; of_code = c.self.inside.of_code; of_all = c.self.inside.of_all } in
    let now : CurvesValue = record { uses = c.self-2.inside.of_all.uses; of_data = c.self-2.inside.of_data; of_code = c.self-2.inside.of_code; of_all = c.self-2.inside.of_all } in
    let old_is : old ≡ c.args.self.now = c.self.view_is in
    let now_is : now ≡ c.note_each.new.self = c.self-2.view_is in
    let before : HaveCounted sets old uses = subst (λ (v : CurvesValue). HaveCounted sets v uses) (sym old_is) have in
    let loads : HaveCounted sets c.note_each.new.self (uses ++ run_of first n) = c.note_each.ensures.counted sets uses (assumption (have, before)) in
    let once : HaveCounted sets now (uses ++ run_of first n) = subst (λ (v : CurvesValue). HaveCounted sets v (uses ++ run_of first n)) (sym now_is) loads in
    let lines : c.uses.result - c.uses-before.result ≡ n =
    omega (arith, c.uses.ensures, c.uses-before.ensures, ap (λ (v : CurvesValue). v.uses) old_is, ap (λ (v : CurvesValue). v.uses) now_is, c.note_each.ensures.uses, length-map-range_with_len one first n) in
    HaveCounted-twice sets now c.repeat_run-2.new.self c.repeat_run.new.self c.repeat_run.new.self.uses first n uses once c.repeat_run-2.ensures.sets c.repeat_run.ensures.sets
    (subst (λ (k : ℕ). RepeatsRun now.of_data c.repeat_run-2.new.self k) lines c.repeat_run-2.ensures.again)
    (subst (λ (k : ℕ). RepeatsRun now.of_all c.repeat_run.new.self k) lines c.repeat_run.ensures.again)
