-- The statuses of a call, by those of the rim and the verdict, and the exit statuses.
use Rattle.std.specs.Prelude.{ℕ, Option, Some, None}
use Rattle.call_rim.specs.declared.status.Status.{Status}
use Rattle.call_rim.specs.declared.status.Status.TheVariants as rim
use Rattle.check_top.specs.declared.checked.Checked.{Checked}
use Rattle.check_top.specs.declared.ended.CheckEnded.{CheckEnded}
use Rattle.check_top.specs.declared.status.CheckStatus.{CheckStatus}
use Rattle.check_top.specs.declared.status.CheckStatus.TheVariants.{Done, Refused, Usage, ReadFault, WriteFault, NoMemory, No}
use Rattle.journal_check.specs.declared.verdict.Verdict.{Verdict}
use Rattle.journal_check.specs.declared.verdict.Verdict.TheVariants as verdicts

-- the exit status by how the call ended: 0 where it is done
abbrev pub code_of : CheckStatus → ℕ
code_of Done = 0
code_of Refused = 1
code_of Usage = 2
code_of ReadFault = 3
code_of WriteFault = 4
code_of NoMemory = 5
code_of No = 6

-- the status of a call, by that of the rim and the verdict, if there is one: No where it is done and the journals are no run
abbrev pub status_by : Status → Option Verdict → CheckStatus
status_by rim.Done (Some (verdicts.No clause)) = No
status_by rim.Done (Some verdicts.Yes) = Done
status_by rim.Done None = Done
status_by rim.Refused verdict = Refused
status_by rim.Usage verdict = Usage
status_by rim.ReadFault verdict = ReadFault
status_by rim.WriteFault verdict = WriteFault
status_by rim.NoMemory verdict = NoMemory

-- the end of a call that found this
abbrev pub ended_by : Status → Option Checked → CheckEnded
ended_by status None = record { status = status_by status None; journals = None }
ended_by status (Some found) = record { status = status_by status (Some found.verdict); journals = Some found.journals }
