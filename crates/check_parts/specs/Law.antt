-- The journals of a run can be written.
-- (For functions and proofs: no promise of the program stands on it.)
use Rattle.journal_text.specs.Writable.{IsWritable}
use Rattle.run_law.specs.Journals.{JournalsValue}
use Rattle.run_law.specs.Runs.{IsRun}
use Rattle.script_ops.specs.Values.{IsLawful, ScriptValue}

-- the journals of a run of a lawful script have a text
abbrev pub RunsAreWritable : Type 0
RunsAreWritable = (script : ScriptValue) (journals : JournalsValue) → IsLawful script → IsRun script journals → IsWritable script journals
