-- Which status is due, from how a call ended.
use Rattle.std.proofs.Common.{◌≡◌, ℕ, Bool, true, false, List, Option, Some, None, refl, sym, ap, ◌∙◌}
use Rattle.std.specs.Prelude.{is_ok}
use Rattle.call_rim.proofs.laws.Ends.{Ends-as, IsComplete-ends, IsComplete-passed}
use Rattle.call_rim.specs.Endings.{Call, Ends}
use Rattle.call_rim.specs.Passing.{PassEnds}
use Rattle.call_rim.specs.declared.status.Status.{Status}
use Rattle.plan_top.specs.Endings.{IsComplete, is_input}
use Rattle.plan_top.specs.Plans.{refuses_by, reports_by}
use Rattle.plan_top.specs.declared.form.Form.{Form}
use Rattle.plan_top.specs.declared.form.Form.TheVariants.{Curve, Divide, Filter, Share}
use Rattle.plan_top.proofs.Programs.{length-programs_from}
use Rattle.share_plans.specs.Streams.{stream_of}
use Rattle.way_curve.specs.FilterTexts.{IsFiltered, IsFilteredSoFar, IsFilteredToBad}
use Rattle.way_curve.specs.declared.first_levels.LevelShapes.{LevelShapes}

-- what is reported on is what the words ask for
is_input-reported : (form : Option Form) (bytes : List ℕ) (nothing : Unit {0}) (text : List ℕ) → reports_by form bytes nothing text → is_input form bytes ≡ true
is_input-reported None bytes nothing text is = absurd is
is_input-reported (Some (Curve form)) bytes nothing text is = ap is_ok is.trace
is_input-reported (Some (Divide form)) bytes nothing text is = ap is_ok is.is_script
is_input-reported (Some (Share form)) bytes nothing text is = ap (λ (n : ℕ). is_ok (stream_of n bytes)) (sym (length-programs_from 0 form.wishes)) ∙ ap is_ok is.stream
is_input-reported (Some (Filter levels)) bytes nothing text is = ap is_ok is.trace

-- and what is refused is not
is_input-refused : (form : Option Form) (bytes text : List ℕ) → refuses_by form bytes text → is_input form bytes ≡ false
is_input-refused None bytes text is = refl
is_input-refused (Some (Curve form)) bytes text is = ap is_ok is.bad
is_input-refused (Some (Divide form)) bytes text is = ap is_ok is.no_script
is_input-refused (Some (Share form)) bytes text is = ap is_ok is.bad
is_input-refused (Some (Filter levels)) bytes text is = ap is_ok is.is_bad.bad

-- a condition holds or not
never-both : (b : Bool) → b ≡ true → b ≡ false → ⊥
never-both b yes_b no_b = let never : true ≡ false = sym yes_b ∙ no_b in absurd cc

-- the bytes are not what the words ask for
abbrev is_other : Option Form → List ℕ → List ℕ → Type 0
is_other form bytes line = is_input form bytes ≡ false

-- the status that is due
pub complete : (form : Option Form) (c : Call) (outcome : Option (Unit {0})) (status : Status) → Ends (refuses_by form) (reports_by form) c status outcome → IsComplete form c status
complete form c outcome status ends =
    let same = Ends-as (refuses_by form) (is_other form) (reports_by form) (reports_by form) c outcome status (λ is bytes text no. is_input-refused form bytes text no) (λ bytes nothing text yes. yes) ends in
    IsComplete-ends (is_other form) (reports_by form) (λ bytes line nothing text no yes. never-both (is_input form bytes) (is_input-reported form bytes nothing text yes) no) c status outcome same

-- of a call that passes its input on
pub complete-passed : (levels : LevelShapes) (c : Call) → c.has_form ≡ true → (status : Status) → PassEnds (IsFilteredSoFar levels) (IsFilteredToBad levels) (IsFiltered levels) c.source c.sink status → IsComplete (Some (Filter levels)) c status
complete-passed levels c form status ends =
    let asked = Some (Filter levels) in
    IsComplete-passed (IsFilteredSoFar levels) (IsFilteredToBad levels) (IsFiltered levels) (is_other asked) (λ bytes text no. ap is_ok no.is_bad.bad) (λ bytes line text no yes. never-both (is_input asked bytes) (ap is_ok yes.trace) no) c form
    status ends
