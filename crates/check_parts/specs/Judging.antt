-- What is kept of journals until a command comes that no run goes on with, and the verdict on an input.
-- (For functions and proofs: no promise of the program stands on it.)
use Rattle.std.specs.Prelude.{◌≡◌, ℕ, List, [], length, Option, Some, None, Result, Ok, Err}
use Rattle.check_parts.specs.BadInputs.{IsBad}
use Rattle.check_parts.specs.Inputs.{HoldsJournals}
use Rattle.check_parts.specs.declared.expected_journals.ExpectedJournals.{ExpectedJournals}
use Rattle.check_parts.specs.LeftJournals.{KeepsLeft, kept_in}
use Rattle.check_parts.specs.declared.form.Form.TheVariants.{Check}
use Rattle.check_parts.specs.declared.input.InputError.{InputError}
use Rattle.check_parts.specs.declared.input.InputError.TheVariants as errors
use Rattle.check_parts.specs.declared.left_journals.LeftJournals.{LeftJournals}
use Rattle.journal_check.specs.CommandCounts.{AreCountsToTwo, HasUnexpected}
use Rattle.journal_check.specs.Verdicts.{IsVerdict}
use Rattle.journal_check.specs.declared.verdict.Verdict.{Verdict}
use Rattle.journal_text.specs.States.{PartsRead, journals_in, with_command}
use Rattle.machine.specs.Slices.{slice_count}
use Rattle.run_law.specs.Journals.{JournalsValue}
use Rattle.run_law.specs.TreeHistory.{TreeEntryValue}
use Rattle.script_ops.specs.Values.{IsLawful, ScriptValue}

-- what is left of these parts is kept, or nothing, where a command among them is not expected
abbrev pub KeepsAll : ScriptValue → Option LeftJournals → PartsRead → Type 0
KeepsAll script (Some left) parts = KeepsLeft left script parts
KeepsAll script None parts = HasUnexpected script parts.tree

-- so much is kept of these parts of journals of the script, and their commands are counted
pub record KeepsExpected (kept : ExpectedJournals) (script : ScriptValue) (parts : PartsRead) : Type 0 where
  pub counts : AreCountsToTwo script kept.counts parts.tree
  pub all : KeepsAll script kept.left parts

-- where anything is kept, there is a list for each slice of the machine
abbrev pub HasSlices : ScriptValue → Option LeftJournals → Type 0
HasSlices script (Some left) = length (kept_in left).slices ≡ slice_count script.machine
HasSlices script None = Unit {0}

-- what was kept is kept with one part more, and where nothing was kept nothing is
abbrev pub KeepsToo : ScriptValue → Option LeftJournals → Option LeftJournals → (PartsRead → PartsRead) → Type 0
KeepsToo script (Some old) new more = (left : LeftJournals) × (new ≡ Some left) × ((parts : PartsRead) → KeepsLeft old script parts → KeepsLeft left script (more parts))
KeepsToo script None new more = new ≡ None

-- the same with one command more, where no slice was read
abbrev pub KeepsCommand : ScriptValue → Option LeftJournals → Option LeftJournals → TreeEntryValue → Type 0
KeepsCommand script (Some old) new h = (left : LeftJournals) × (new ≡ Some left) × ((parts : PartsRead) → parts.slices ≡ [] → KeepsLeft old script parts → KeepsLeft left script (with_command parts h))
KeepsCommand script None new h = new ≡ None

-- an input holds a lawful script and journals, and this is the verdict on them
pub record HasVerdict (bytes : List ℕ) (verdict : Verdict) : Type 0 where
  pub script : ScriptValue
  pub journals : JournalsValue
  pub holds : HoldsJournals bytes script journals
  pub lawful : IsLawful script
  pub says : IsVerdict script journals verdict

-- the verdict on an input, or what is wrong with it; out of memory says nothing of it
abbrev pub ReadsVerdict : List ℕ → Result Verdict InputError → Type 0
ReadsVerdict bytes (Ok verdict) = HasVerdict bytes verdict
ReadsVerdict bytes (Err (errors.Bad bad)) = IsBad Check bytes bad
ReadsVerdict bytes (Err errors.NoMemory) = Unit {0}

-- what is kept of the journals of an input, or what is wrong with them; out of memory says nothing of them
abbrev pub ReadsExpected : List ℕ → ScriptValue → Result ExpectedJournals InputError → Type 0
ReadsExpected bytes script (Ok kept) = (parts : PartsRead) × KeepsExpected kept script parts × HoldsJournals bytes script (journals_in parts)
ReadsExpected bytes script (Err (errors.Bad bad)) = IsBad Check bytes bad
ReadsExpected bytes script (Err errors.NoMemory) = Unit {0}
