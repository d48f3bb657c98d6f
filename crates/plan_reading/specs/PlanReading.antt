-- That a script with its plan at its end reads as the script with the commands of the plan.
-- (For functions and proofs: no promise of the program stands on it.)
use Rattle.std.specs.Prelude.{◌≡◌, ℕ, true, List, Ok}
use Rattle.run_law.specs.Journals.{JournalsValue}
use Rattle.run_law.specs.Runs.{IsRun}
use Rattle.run_law.specs.TreeHistory.{tree_after}
use Rattle.script_ops.specs.Values.{IsLawful, ScriptValue}
use Rattle.script_ops.specs.declared.op.Op.{Op}
use Rattle.script_text.specs.Reading.{script_of}
use Rattle.way_plans.specs.AppliedTexts.{applied_text}
use Rattle.way_plans.specs.PlanCommands.{plan_ops}
use Rattle.way_plans.specs.PlanTexts.{DomainPart, is_whole}
use Rattle.way_plans.specs.Planned.{AreParts}
use Rattle.way_plans.specs.Plans.{planned}
use Rattle.plan_reading.specs.ReadBack.{HasRoom, with_phase}

-- the commands of a plan of a script that was played
abbrev pub commands_of : ScriptValue → JournalsValue → List DomainPart → List Op
commands_of script j parts = plan_ops script.machine.ways (planned (tree_after script j.tree)) parts

-- the bytes of a script with its plan
abbrev pub text_of : List ℕ → ScriptValue → JournalsValue → List DomainPart → List ℕ
text_of bytes script j parts = applied_text bytes script.names script.machine.ways (planned (tree_after script j.tree)) parts

-- Where each domain has a division, and the script has room for the commands, the text is the script with a phase that has just these.
abbrev pub PlansReadBack : Type 0
PlansReadBack = (bytes : List ℕ) (script : ScriptValue) (j : JournalsValue) (parts : List DomainPart) → script_of bytes ≡ Ok script → IsLawful script → IsRun script j → AreParts script j parts → is_whole parts ≡ true
    → HasRoom script (commands_of script j parts) → script_of (text_of bytes script j parts) ≡ Ok (with_phase script (commands_of script j parts))
