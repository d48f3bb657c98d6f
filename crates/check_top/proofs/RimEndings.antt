-- How the calls of the rim end, as endings of the call.
use Rattle.std.proofs.Common.{◌≡◌, ℕ, true, false, List, Option, Some, None, refl, inl, inr}
use Rattle.call_rim.proofs.laws.Ends.{Ends-as, IsComplete-ends}
use Rattle.call_rim.proofs.laws.Ends as laws
use Rattle.call_rim.specs.Endings.{LeavesBy, Says}
use Rattle.call_rim.specs.Endings as rim
use Rattle.call_rim.specs.Outside.{Reading, Writing}
use Rattle.call_rim.specs.Within.{RefusesWithin, ReportsWithin}
use Rattle.call_rim.specs.declared.status.Status.{Status}
use Rattle.call_rim.specs.declared.status.Status.TheVariants.{Usage}
use Rattle.check_parts.specs.BadInputs.{most_of}
use Rattle.check_parts.specs.Forms.{usage_line}
use Rattle.check_parts.specs.declared.bad_input.BadInput.TheVariants.{TooLarge}
use Rattle.check_parts.specs.declared.form.Form.{Form}
use Rattle.check_top.proofs.Apart.{apart}
use Rattle.check_top.specs.Endings.{Ends, Refuses, Reports, refuses_by, reports_by}
use Rattle.check_top.specs.Statuses.{ended_by}
use Rattle.check_top.specs.declared.checked.Checked.{Checked}
use Rattle.check_top.specs.declared.ended.CheckEnded.{CheckEnded}

module _ (source : Reading) (sink : Writing) (status : Status) (found : Option Checked) (ended : CheckEnded) (told : ended ≡ ended_by status found) where
  -- ---- a valid command line

  module _ (form : Form) where
    is_refused : (bytes line : List ℕ) → RefusesWithin (most_of form) (Refuses form) bytes line → refuses_by (Some form) bytes line
    is_refused bytes line (inl large) = record { bad = TooLarge; is_bad = large.0; told = large.1 }
    is_refused bytes line (inr few) = few.1

    -- a call of the rim, with what it leaves
    pub Ends-called : rim.Ends (RefusesWithin (most_of form) (Refuses form)) (ReportsWithin (most_of form) (Reports form)) (rim.call_of true usage_line source sink) status found → LeavesBy (most_of form) source status
        → Ends (Some form) source sink ended
    Ends-called ends leaves =
        let called = Ends-as (RefusesWithin (most_of form) (Refuses form)) (refuses_by (Some form)) (ReportsWithin (most_of form) (Reports form)) (reports_by (Some form)) (rim.call_of true usage_line source sink) found status
        (λ is. is_refused) (λ bytes checked text few. few.1) ends in
        record {
          status = status;
          found = found;
          ends = called;
          complete = IsComplete-ends (refuses_by (Some form)) (reports_by (Some form)) (apart form) (rim.call_of true usage_line source sink) status found called;
          leaves = leaves;
          told = told;
        }

  -- ---- a command line that is not valid

  -- the usage line was written, and no source was called
  pub Ends-usage : source.left_now ≡ source.left → source.faults_now ≡ source.faults → Says Usage None usage_line sink status found → Ends None source sink ended
  Ends-usage same read said =
      let called = laws.Ends-usage (refuses_by None) (reports_by None) (rim.call_of false usage_line source sink) status found refl read same said in
      record {
        status = status;
        found = found;
        ends = called;
        complete = IsComplete-ends (refuses_by None) (reports_by None) (λ bytes line checked text refused reported. refused) (rim.call_of false usage_line source sink) status found called;
        leaves = tt;
        told = told;
      }
