-- Which status is due, and what a call read of a trace or a stream that failed.
use Rattle.std.specs.Prelude.{◌≡◌, ℕ, Bool, false, List, length, Option, Some, None, String, is_ok}
use Rattle.std.specs.declared.alloc.Global.{Global}
use Rattle.call_rim.specs.Codes.{code_of}
use Rattle.call_rim.specs.Endings.{Call, Ends, LeavesBy, call_of}
use Rattle.call_rim.specs.Endings as rim
use Rattle.call_rim.specs.Outside.{IsGoodSoFar, Reading, Writing}
use Rattle.call_rim.specs.Passing.{PassEnds}
use Rattle.call_rim.specs.declared.status.Status.{Status}
use Rattle.call_rim.specs.declared.status.Status.TheVariants.{ReadFault}
use Rattle.plan_top.specs.Beginnings.{HasNoBadLine}
use Rattle.plan_top.specs.Forms.{form_of, usage_line}
use Rattle.plan_top.specs.Plans.{is_valid, refuses_by, reports_by}
use Rattle.plan_top.specs.Shares.{HasNoBadTurn}
use Rattle.plan_top.specs.declared.form.Form.{Form}
use Rattle.plan_top.specs.declared.form.Form.TheVariants.{Curve, Divide, Filter, Share}
use Rattle.script_ops.specs.declared.limits.TheConstants.{MOST_SCRIPT_BYTES}
use Rattle.share_plans.specs.Streams.{stream_of}
use Rattle.top_parts.specs.Meaning.{meaning}
use Rattle.way_curve.specs.FilterTexts.{IsFiltered, IsFilteredSoFar, IsFilteredToBad}
use Rattle.way_curve.specs.TraceTexts.{trace_of}

-- ---- how a call ends

-- What a status says of a call, by what its words ask for: a filter writes before its input has ended.
abbrev pub EndsBy : Option Form → Reading → Writing → Status → Option (Unit {0}) → Type 0
EndsBy (Some (Filter levels)) source sink status outcome = PassEnds (IsFilteredSoFar levels) (IsFilteredToBad levels) (IsFiltered levels) source sink status × (outcome ≡ None)
EndsBy form source sink status outcome = Ends (refuses_by form) (reports_by form) (call_of (is_valid form) usage_line source sink) status outcome

-- ---- the status that is due

-- whether these bytes are what the words ask for: a trace, a script, or a stream of so many programs
abbrev pub is_input : Option Form → List ℕ → Bool
is_input None bytes = false
is_input (Some (Curve form)) bytes = is_ok (trace_of bytes)
is_input (Some (Divide form)) bytes = is_ok (meaning bytes)
is_input (Some (Share form)) bytes = is_ok (stream_of (length form.wishes) bytes)
is_input (Some (Filter levels)) bytes = is_ok (trace_of bytes)

-- The status when nothing fails, unless memory runs out: Done where the bytes are what the words ask for, and Refused where they are
-- not. A command line that is not valid gets Usage, whatever becomes of the source.
abbrev pub IsComplete : Option Form → Call → Status → Type 0
IsComplete form c status = rim.IsComplete (λ bytes line. is_input form bytes ≡ false) c status

-- ---- what is left of the source

-- What a call leaves: of a script the rest behind one byte more than the most, unless the source failed or memory ran out. What is left
-- of a trace or a stream that has a report is in `EndsBy`.
abbrev pub Leaves : Option Form → Reading → Status → Type 0
Leaves None source status = Unit {0}
Leaves (Some (Curve form)) source status = Unit {0}
Leaves (Some (Divide form)) source status = LeavesBy MOST_SCRIPT_BYTES source status
Leaves (Some (Share form)) source status = Unit {0}
Leaves (Some (Filter levels)) source status = Unit {0}

-- What was read of a trace or a stream before the source failed has no bad line. So a bad line that was read is told, though the source
-- would fail after it.
abbrev pub FailsBy : Option Form → Reading → Status → Type 0
FailsBy None source status = Unit {0}
FailsBy (Some (Curve form)) source status = status ≡ ReadFault → IsGoodSoFar HasNoBadLine source.left source.left_now
FailsBy (Some (Divide form)) source status = Unit {0}
FailsBy (Some (Share form)) source status = status ≡ ReadFault → IsGoodSoFar (HasNoBadTurn form) source.left source.left_now
FailsBy (Some (Filter levels)) source status = status ≡ ReadFault → IsGoodSoFar HasNoBadLine source.left source.left_now

-- a call with these words ended as this exit status says
pub record EndsWith (words : List (String Global)) (source : Reading) (sink : Writing) (code : ℕ) : Type 0 where
  pub status : Status
  pub outcome : Option (Unit {0})
  pub ends : EndsBy (form_of words) source sink status outcome
  pub complete : IsComplete (form_of words) (call_of (is_valid (form_of words)) usage_line source sink) status
  pub leaves : Leaves (form_of words) source status
  pub fails : FailsBy (form_of words) source status
  pub is_code : code ≡ code_of status
