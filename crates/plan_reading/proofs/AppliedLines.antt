-- The text of a script with its plan, as a script and a phase of writes.
use Rattle.std.proofs.Common.{◌≡◌, ℕ, true, List, ◌++◌, ap}
use Rattle.std.specs.Prelude.{codes}
use Rattle.group_tree.specs.declared.group.Group.{Group}
use Rattle.way_plans.specs.AppliedTexts.{applied_text, line_end}
use Rattle.way_plans.specs.PlanCommands.{LinesAreCommands, plan_ops}
use Rattle.way_plans.specs.PlanTexts.{DomainPart, is_whole}
use Rattle.plan_reading.specs.ReadBack.{phase_text, whole_lines}

-- where each domain has a division, a phase with the commands of the plan follows
pub applied_text-phase : LinesAreCommands → (bytes : List ℕ) (names : List (List ℕ)) (ways : ℕ) (groups : List Group) (parts : List DomainPart) → is_whole parts ≡ true
    → applied_text bytes names ways groups parts ≡ whole_lines bytes ++ phase_text names (plan_ops ways groups parts)
applied_text-phase lines_are bytes names ways groups parts whole =
    rw whole (ap (λ (text : List ℕ). (bytes ++ line_end bytes) ++ (codes "phase\nthread\n" ++ text)) (rw whole at (lines_are names ways groups parts)))
