-- A script with its plan is read as the script with the commands of the plan.
use Rattle.std.proofs.Common.{ap, ◌∙◌}
use Rattle.run_law.specs.TreeHistory.{tree_after}
use Rattle.script_text.specs.Reading.{script_of}
use Rattle.way_plans.specs.PlanCommands.{LinesAreCommands}
use Rattle.way_plans.specs.Plans.{planned}
use Rattle.plan_reading.specs.ReadBack.{PhasesReadBack}
use Rattle.plan_reading.proofs.AppliedLines.{applied_text-phase}
use Rattle.plan_reading.proofs.PlanWrites.{AllWritten-plan}
use Rattle.plan_reading.specs.PlanReading.{PlansReadBack, commands_of}

pub plans-back : PhasesReadBack → LinesAreCommands → PlansReadBack
plans-back phases_back lines_are bytes script j parts reads lawful run are whole room =
    ap script_of (applied_text-phase lines_are bytes script.names script.machine.ways (planned (tree_after script j.tree)) parts whole)
    ∙ phases_back bytes script (commands_of script j parts) reads (AllWritten-plan script j parts lawful.in_range are) room
