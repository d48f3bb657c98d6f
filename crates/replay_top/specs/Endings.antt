-- Which status is due, and the exit status.
use Rattle.std.specs.Prelude.{◌≡◌, ℕ, ◌⊎◌, Bool, true, false, List, Option, Some, None}
use Rattle.call_rim.specs.Codes.{code_of}
use Rattle.call_rim.specs.Endings.{Call, Ends, HasInput, LeavesBy}
use Rattle.call_rim.specs.Endings as rim
use Rattle.call_rim.specs.declared.status.Status.{Status}
use Rattle.call_rim.specs.declared.status.Status.TheVariants.{Done, NoMemory, ReadFault, Refused, Usage, WriteFault}
use Rattle.check_parts.specs.Inputs.{HoldsJournals}
use Rattle.check_parts.specs.declared.limits.TheConstants.{MOST_CHECK_BYTES}
use Rattle.replay_top.specs.Reports.{refuses, reports}
use Rattle.replay_top.specs.declared.form.ReplayForm.{ReplayForm}
use Rattle.replay_top.specs.declared.outcome.Replayed.{Replayed}
use Rattle.replay_top.specs.declared.outcome.Replayed.TheVariants as outcomes
use Rattle.run_law.specs.Journals.{JournalsValue}
use Rattle.run_law.specs.Runs.{IsRun}
use Rattle.script_ops.specs.Values.{ScriptValue}

-- ---- which status is due

-- what was found is that the journals are no run
abbrev pub says_no_run : Option Replayed → Bool
says_no_run (Some (outcomes.NoRun clause)) = true
says_no_run (Some (outcomes.Ordered run)) = false
says_no_run (Some outcomes.NoOrder) = false
says_no_run (Some outcomes.TooLong) = false
says_no_run (Some (outcomes.Reported run)) = false
says_no_run None = false

-- The status is the one that is due. Where nothing fails, journals that are a run are never said to be none, and those that are none
-- always, unless memory runs out.
pub record IsComplete (c : Call) (status : Status) (outcome : Option Replayed) : Type 0 where
  pub due : rim.IsComplete refuses c status
  pub run : (bytes : List ℕ) (script : ScriptValue) (run : JournalsValue) → HasInput c bytes → HoldsJournals bytes script run → IsRun script run → says_no_run outcome ≡ false
  pub no_run : (bytes : List ℕ) (script : ScriptValue) (run : JournalsValue) → HasInput c bytes → HoldsJournals bytes script run → (IsRun script run → ⊥) → (says_no_run outcome ≡ true) ⊎ (status ≡ NoMemory)

-- ---- the exit status

-- the number for what was found: 0 for an order or a report, and 6 for anything else
abbrev pub found_code : Option Replayed → ℕ
found_code (Some (outcomes.Ordered run)) = 0
found_code (Some (outcomes.Reported run)) = 0
found_code (Some (outcomes.NoRun clause)) = 6
found_code (Some outcomes.NoOrder) = 6
found_code (Some outcomes.TooLong) = 6
found_code None = 6

-- the number of a call that ended so: that of its status, and where that is Done, the one for what was found
abbrev pub exit_code : Status → Option Replayed → ℕ
exit_code Done outcome = found_code outcome
exit_code Refused outcome = code_of Refused
exit_code Usage outcome = code_of Usage
exit_code ReadFault outcome = code_of ReadFault
exit_code WriteFault outcome = code_of WriteFault
exit_code NoMemory outcome = code_of NoMemory

-- a call with words of this form ended as this exit status says
pub record EndsWith (form : Option ReplayForm) (c : Call) (code : ℕ) : Type 0 where
  pub status : Status
  pub outcome : Option Replayed
  pub ends : Ends refuses (reports form) c status outcome
  pub complete : IsComplete c status outcome
  pub leaves : c.has_form ≡ true → LeavesBy MOST_CHECK_BYTES c.source status
  pub is_code : code ≡ exit_code status outcome
