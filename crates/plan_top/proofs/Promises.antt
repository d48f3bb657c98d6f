-- What the top call promises, by the form of its words.
use Rattle.std.proofs.Common.{◌≡◌, true, Option, Some, None, refl, subst}
use Rattle.call_rim.proofs.laws.Ends.{Ends-usage}
use Rattle.call_rim.specs.Endings.{Call, Ends, LeavesBy, Says, call_of}
use Rattle.call_rim.specs.Outside.{IsGoodSoFar, Reading, Writing}
use Rattle.call_rim.specs.Passing.{PassEnds}
use Rattle.call_rim.specs.declared.status.Status.{Status}
use Rattle.call_rim.specs.declared.status.Status.TheVariants.{ReadFault, Usage}
use Rattle.plan_top.proofs.Complete.{complete, complete-passed}
use Rattle.plan_top.proofs.EndedLines.{HasNoBadLine-filtered}
use Rattle.plan_top.specs.Beginnings.{HasNoBadLine}
use Rattle.plan_top.specs.CurveForms.{CurveWords}
use Rattle.plan_top.specs.Endings.{EndsBy, FailsBy, IsComplete, Leaves}
use Rattle.plan_top.specs.Forms.{usage_line}
use Rattle.plan_top.specs.Plans.{RefusesScript, RefusesTrace, is_valid, refuses_by, reports_by, reports_of, reports_plan}
use Rattle.plan_top.specs.declared.divide_form.DivideForm.{DivideForm}
use Rattle.plan_top.specs.declared.form.Form.{Form}
use Rattle.plan_top.specs.declared.form.Form.TheVariants.{Curve, Divide, Filter, Share}
use Rattle.plan_top.specs.ShareForms.{ShareWords}
use Rattle.plan_top.specs.Shares.{HasNoBadTurn, RefusesStream, reports_shares}
use Rattle.script_ops.specs.declared.limits.TheConstants.{MOST_SCRIPT_BYTES}
use Rattle.way_curve.specs.FilterTexts.{IsFiltered, IsFilteredSoFar, IsFilteredToBad}
use Rattle.way_curve.specs.declared.first_levels.LevelShapes.{LevelShapes}

module _ (source : Reading) (sink : Writing) (status : Status) (outcome : Option (Unit {0})) where
  -- the call with words of this form
  abbrev pub call_with : Option Form → Call
  call_with form = call_of (is_valid form) usage_line source sink

  -- all that is promised of it
  pub record IsPromised (form : Option Form) : Type 0 where
    pub ends : EndsBy form source sink status outcome
    pub complete : IsComplete form (call_with form) status
    pub leaves : Leaves form source status
    pub fails : FailsBy form source status

  -- a call that read a trace
  pub promised-curve : (form : CurveWords) → Ends RefusesTrace (reports_of form) (call_of true usage_line source sink) status outcome
      → (status ≡ ReadFault → IsGoodSoFar HasNoBadLine source.left source.left_now) → IsPromised (Some (Curve form))
  promised-curve form ends fails =
      record { ends = ends; complete = complete (Some (Curve form)) (call_with (Some (Curve form))) outcome status ends; leaves = tt; fails = fails }

  -- a call that read a script
  pub promised-divide : (form : DivideForm) → Ends RefusesScript (reports_plan form) (call_of true usage_line source sink) status outcome → LeavesBy MOST_SCRIPT_BYTES source status
      → IsPromised (Some (Divide form))
  promised-divide form ends leaves =
      record { ends = ends; complete = complete (Some (Divide form)) (call_with (Some (Divide form))) outcome status ends; leaves = leaves; fails = tt }

  -- a call that passed a trace on
  pub promised-filter : (levels : LevelShapes) → PassEnds (IsFilteredSoFar levels) (IsFilteredToBad levels) (IsFiltered levels) source sink status → outcome ≡ None → IsPromised (Some (Filter levels))
  promised-filter levels ends none =
      record { ends = (ends, none); complete = complete-passed levels (call_with (Some (Filter levels))) refl status ends; leaves = tt; fails = fails }
    where
      fails : status ≡ ReadFault → IsGoodSoFar HasNoBadLine source.left source.left_now
      fails is =
          let begun = (subst (λ (s : Status). PassEnds (IsFilteredSoFar levels) (IsFilteredToBad levels) (IsFiltered levels) source sink s) is ends).1 in
          record { bytes = begun.bytes; read = begun.read; good = HasNoBadLine-filtered levels begun.bytes begun.text begun.is_due }

  -- a call that read a stream of several programs
  pub promised-share : (form : ShareWords) → Ends (RefusesStream form) (reports_shares form) (call_of true usage_line source sink) status outcome
      → (status ≡ ReadFault → IsGoodSoFar (HasNoBadTurn form) source.left source.left_now) → IsPromised (Some (Share form))
  promised-share form ends fails =
      record { ends = ends; complete = complete (Some (Share form)) (call_with (Some (Share form))) outcome status ends; leaves = tt; fails = fails }

  -- a call that wrote the usage line
  pub promised-usage : source.left_now ≡ source.left → source.faults_now ≡ source.faults → Says Usage None usage_line sink status outcome → IsPromised None
  promised-usage left read says =
      let ends = Ends-usage (refuses_by None) (reports_by None) (call_with None) status outcome refl read left says in
      record { ends = ends; complete = complete None (call_with None) outcome status ends; leaves = tt; fails = tt }
