-- What the program writes of its input, by what its words ask for.
use Rattle.std.specs.Prelude.{◌≡◌, ℕ, Bool, true, false, List, Option, Some, None, Ok, Err}
use Rattle.lackey_text.specs.declared.uses.LineUse.{LineUse}
use Rattle.run_law.specs.Journals.{JournalsValue}
use Rattle.run_law.specs.Runs.{IsRun}
use Rattle.script_ops.specs.Values.{ScriptValue}
use Rattle.share_plans.specs.Reports.{ReportsShares}
use Rattle.step_world.specs.Play.{IsPlay}
use Rattle.way_curve.specs.TraceTexts.{trace_of}
use Rattle.way_curve.specs.CurveTexts.{bad_line_text, curves_text}
use Rattle.way_curve.specs.FilterTexts.{IsFiltered, IsFilteredToBad}
use Rattle.way_plans.specs.AppliedTexts.{TellsAppliedPlan}
use Rattle.way_plans.specs.Planned.{TellsComparedPlan, TellsPlan}
use Rattle.top_parts.specs.Meaning.{meaning, refusal_line}
use Rattle.top_parts.specs.declared.refusal.Refusal.{Refusal}
use Rattle.plan_top.specs.CurveForms.{CurveWords}
use Rattle.plan_top.specs.declared.divide_form.DivideForm.{DivideForm}
use Rattle.plan_top.specs.declared.divide_form.DivideForm.TheVariants.{Apply, Report}
use Rattle.plan_top.specs.declared.form.Form.{Form}
use Rattle.plan_top.specs.declared.form.Form.TheVariants.{Curve, Divide, Filter, Share}
use Rattle.plan_top.specs.ShareForms.{programs_of}
use Rattle.plan_top.specs.Shares.{RefusesStream}

-- ---- `curve`

-- a line of these bytes is none of a trace, and the text tells the first such
pub record RefusesTrace (bytes text : List ℕ) : Type 0 where
  pub line : ℕ
  pub bad : trace_of bytes ≡ Err line
  pub told : text ≡ bad_line_text line

-- these bytes are a trace, and the text is the report of its uses, or of what the levels and the sample leave of them
pub record ReportsCurves (form : CurveWords) (bytes text : List ℕ) : Type 0 where
  pub uses : List LineUse
  pub trace : trace_of bytes ≡ Ok uses
  pub report : text ≡ curves_text form.levels form.one_of form.is_scaled form.has_first form.sets form.ways uses

-- (For proofs.) what a form reports of bytes, beside which it hands nothing back
abbrev pub reports_of : CurveWords → List ℕ → Unit {0} → List ℕ → Type 0
reports_of form bytes nothing text = ReportsCurves form bytes text

-- ---- `divide`

-- these bytes are no script, and the text tells why
pub record RefusesScript (bytes text : List ℕ) : Type 0 where
  pub refusal : Refusal
  pub no_script : meaning bytes ≡ Err refusal
  pub told : text ≡ refusal_line refusal

-- the text tells a plan of a script and, where that is asked, what it is compared with
abbrev pub TellsAsked : (compare only_used : Bool) → ScriptValue → JournalsValue → List ℕ → Type 0
TellsAsked false only_used script journals text = TellsPlan only_used script journals text
TellsAsked true only_used script journals text = TellsComparedPlan only_used script journals text

-- the text tells what is asked of a script, of which these are the bytes
abbrev pub TellsDivided : DivideForm → List ℕ → ScriptValue → JournalsValue → List ℕ → Type 0
TellsDivided (Report form) bytes script journals text = TellsAsked form.compare form.only_used script journals text
TellsDivided Apply bytes script journals text = TellsAppliedPlan script journals bytes text

-- these bytes are a script, and the text tells what is asked of it by the journals of its play
pub record ReportsPlan (form : DivideForm) (bytes text : List ℕ) : Type 0 where
  pub script : ScriptValue
  pub journals : JournalsValue
  pub is_script : meaning bytes ≡ Ok script
  pub is_run : IsRun script journals
  pub plays : IsPlay script journals
  pub plan : TellsDivided form bytes script journals text

-- (For proofs.) what is reported of bytes that are a script, beside which nothing is handed back
abbrev pub reports_plan : DivideForm → List ℕ → Unit {0} → List ℕ → Type 0
reports_plan form bytes nothing text = ReportsPlan form bytes text

-- ---- a command line

-- what a command line refuses: nothing, where it is not valid
abbrev pub refuses_by : Option Form → List ℕ → List ℕ → Type 0
refuses_by None bytes text = ⊥
refuses_by (Some (Curve form)) bytes text = RefusesTrace bytes text
refuses_by (Some (Divide form)) bytes text = RefusesScript bytes text
refuses_by (Some (Share form)) bytes text = RefusesStream form bytes text
refuses_by (Some (Filter levels)) bytes text = IsFilteredToBad levels bytes text

-- what it reports: nothing, where it is not valid
abbrev pub reports_by : Option Form → List ℕ → Unit {0} → List ℕ → Type 0
reports_by None bytes nothing text = ⊥
reports_by (Some (Curve form)) bytes nothing text = ReportsCurves form bytes text
reports_by (Some (Divide form)) bytes nothing text = ReportsPlan form bytes text
reports_by (Some (Share form)) bytes nothing text = ReportsShares form.goal form.levels form.sets form.ways (programs_of form) bytes text
reports_by (Some (Filter levels)) bytes nothing text = IsFiltered levels bytes text

-- whether a command line is valid
abbrev pub is_valid : Option Form → Bool
is_valid None = false
is_valid (Some form) = true
