-- A call that hands back a verdict ends as one that hands back the journals too.
use Rattle.std.proofs.Common.{◌≡◌, ℕ, List, Option, Some, None, true, refl, ap, ◌∙◌, inl, inr}
use Rattle.std.specs.Prelude.{option_map}
use Rattle.call_rim.specs.Endings.{Call, IsRefused, IsReported, IsUsage, LeavesBy}
use Rattle.call_rim.specs.Endings as rim
use Rattle.call_rim.specs.Outside.{Reading, TakesAll, TakesSome, Writing}
use Rattle.call_rim.specs.Within.{RefusesWithin, ReportsWithin}
use Rattle.call_rim.specs.declared.status.Status.{Status}
use Rattle.call_rim.specs.declared.status.Status.TheVariants.{Done, Refused, Usage, ReadFault, WriteFault, NoMemory}
use Rattle.check_parts.specs.Forms.{usage_line}
use Rattle.check_parts.specs.declared.form.Form.TheVariants.{Check}
use Rattle.check_parts.specs.declared.limits.TheConstants.{MOST_CHECK_BYTES}
use Rattle.check_top.proofs.RimEndings.{Ends-called}
use Rattle.check_top.specs.Codes.{EndsWith}
use Rattle.check_top.specs.Endings.{IsChecked, Refuses}
use Rattle.check_top.specs.Judgements.{IsJudged}
use Rattle.check_top.specs.Statuses.{code_of, ended_by, status_by}
use Rattle.check_top.specs.declared.checked.Checked.{Checked}
use Rattle.check_top.specs.declared.status.CheckStatus.{CheckStatus}
use Rattle.journal_check.specs.declared.verdict.Verdict.{Verdict}

-- what is refused, and what is reported without journals and with them
abbrev refuses : List ℕ → List ℕ → Type 0
refuses bytes line = RefusesWithin MOST_CHECK_BYTES (Refuses Check) bytes line

abbrev judges : List ℕ → Verdict → List ℕ → Type 0
judges bytes verdict text = ReportsWithin MOST_CHECK_BYTES IsJudged bytes verdict text

abbrev checks : List ℕ → Checked → List ℕ → Type 0
checks bytes found text = ReportsWithin MOST_CHECK_BYTES IsChecked bytes found text

-- there is such an ending with this verdict
record IsFound (c : Call) (status : Status) (verdict : Option Verdict) : Type 0 where
  found : Option Checked
  ends : rim.Ends refuses checks c status found
  same : verdict ≡ option_map (λ (f : Checked). f.verdict) found

module _ (c : Call) (verdict : Option Verdict) where
  -- a report
  abbrev Found : (Writing → List ℕ → Type 0) → Type 0
  Found Takes = (found : Option Checked) × IsReported refuses checks c found Takes × (verdict ≡ option_map (λ (f : Checked). f.verdict) found)

  reported : (Takes : Writing → List ℕ → Type 0) → IsReported refuses judges c verdict Takes → Found Takes
  reported Takes is =
      let judged = is.reported.1 in
      let found : Checked = record { journals = judged.journals; verdict = is.found } in
      let report : IsReported refuses checks c (Some found) Takes = record {
        bytes = is.bytes;
        found = found;
        text = is.text;
        form = is.form;
        to_the_end = is.to_the_end;
        leaves = is.leaves;
        reported = (is.reported.0, judged.checked);
        has_outcome = refl;
        report = is.report;
      } in
      (Some found, report, is.has_outcome)

  -- a refusal
  refused : (Takes : Writing → List ℕ → Type 0) → IsRefused refuses judges c verdict Takes → IsRefused refuses checks c None Takes
  refused Takes is = record {
    bytes = is.bytes;
    text = is.text;
    form = is.form;
    to_the_end = is.to_the_end;
    refused = is.refused;
    no_outcome = refl;
    line = is.line;
  }

  -- the usage line
  usage : (Takes : Writing → List ℕ → Type 0) → IsUsage refuses judges c verdict Takes → IsUsage refuses checks c None Takes
  usage Takes is = record { no_form = is.no_form; leaves = is.leaves; no_outcome = refl; line = is.line }

  -- whatever the status
  IsFound-ends : (status : Status) → rim.Ends refuses judges c status verdict → IsFound c status verdict
  IsFound-ends Done (read, is) = (let it = reported TakesAll is in record { found = it.0; ends = (read, it.1); same = it.2 })
  IsFound-ends Refused (read, is) = record { found = None; ends = (read, refused TakesAll is); same = is.no_outcome }
  IsFound-ends Usage (read, is) = record { found = None; ends = (read, usage TakesAll is); same = is.no_outcome }
  IsFound-ends ReadFault is = record { found = None; ends = record { form = is.form; fault = is.fault; no_outcome = refl; nothing = is.nothing }; same = is.no_outcome }
  IsFound-ends WriteFault (read, inl is) = (let it = reported TakesSome is in record { found = it.0; ends = (read, inl it.1); same = it.2 })
  IsFound-ends WriteFault (read, inr (inl is)) = record { found = None; ends = (read, inr (inl (refused TakesSome is))); same = is.no_outcome }
  IsFound-ends WriteFault (read, inr (inr is)) = record { found = None; ends = (read, inr (inr (usage TakesSome is))); same = is.no_outcome }
  IsFound-ends NoMemory (read, is) = record { found = None; ends = (read, record { form = is.form; no_outcome = refl; nothing = is.nothing }); same = is.no_outcome }

-- the status of an ending, by what was found
status-found : (status : Status) (found : Option Checked) → status_by status (option_map (λ (f : Checked). f.verdict) found) ≡ (ended_by status found).status
status-found status None = refl
status-found status (Some f) = refl

-- a call of the rim that hands back a verdict, with what it leaves
pub EndsWith-judged : (source : Reading) (sink : Writing) (status : Status) (verdict : Option Verdict) (told : CheckStatus)
    → rim.Ends refuses judges (rim.call_of true usage_line source sink) status verdict → LeavesBy MOST_CHECK_BYTES source status → told ≡ status_by status verdict
    → EndsWith (Some Check) source sink (code_of told)
EndsWith-judged source sink status verdict told ends leaves is =
    let it = IsFound-ends (rim.call_of true usage_line source sink) verdict status ends in
    let same : told ≡ (ended_by status it.found).status = is ∙ ap (status_by status) it.same ∙ status-found status it.found in
    record {
      ended = ended_by status it.found;
      ends = Ends-called source sink status it.found (ended_by status it.found) refl Check it.ends leaves;
      is_code = ap code_of same;
    }
