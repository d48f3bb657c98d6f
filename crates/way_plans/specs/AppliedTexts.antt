-- A script with the commands of its plan at its end.
use Rattle.std.specs.Prelude.{◌≡◌, ℕ, ◌+◌, ◌-◌, Bool, ◌==◌, if◌then◌else◌, List, [], ◌∷◌, ◌++◌, codes, decimal, length, slice_index, Option, Some, None}
use Rattle.group_tree.specs.declared.group.Group.{Group}
use Rattle.run_law.specs.Journals.{JournalsValue}
use Rattle.run_law.specs.TreeHistory.{tree_after}
use Rattle.script_ops.specs.Values.{ScriptValue}
use Rattle.way_plans.specs.PlanTexts.{DomainPart, is_whole, script_lines}
use Rattle.way_plans.specs.Planned.{AreParts}
use Rattle.way_plans.specs.Plans.{planned}
use Rattle.way_plans.specs.declared.span.Span.{Span}

-- whether the last of these bytes is a newline
abbrev pub ends_line : List ℕ → Bool
ends_line bytes = slice_index bytes (length bytes - 1) == 10

-- the newline that the last line lacks
abbrev pub line_end : List ℕ → List ℕ
line_end bytes = if ends_line bytes then [] else 10 ∷ []

-- the comment line of a domain that has no division
abbrev pub undivided_line : ℕ → Option (List Span) → List ℕ
undivided_line domain None = codes "# domain " ++ decimal domain ++ codes ": no division\n"
undivided_line domain (Some spans) = []

-- the same of several domains, numbered from this one
abbrev pub undivided_lines : ℕ → List DomainPart → List ℕ
undivided_lines domain [] = []
undivided_lines domain (part ∷ parts) = undivided_line domain part.spans ++ undivided_lines (domain + 1) parts

-- a phase with one thread that has the lines of a plan
abbrev pub phase_lines : List (List ℕ) → ℕ → List Group → List DomainPart → List ℕ
phase_lines names ways groups parts = codes "phase\nthread\n" ++ script_lines names ways groups parts

-- What follows a script: where each domain has a division a phase with one thread, which has the lines of the plan, and else a comment
-- for each domain that has none.
abbrev pub added_lines : List (List ℕ) → ℕ → List Group → List DomainPart → List ℕ
added_lines names ways groups parts = if is_whole parts then phase_lines names ways groups parts else undivided_lines 0 parts

-- The whole text: the bytes of the script as they are, and what follows it.
abbrev pub applied_text : List ℕ → List (List ℕ) → ℕ → List Group → List DomainPart → List ℕ
applied_text bytes names ways groups parts = bytes ++ line_end bytes ++ added_lines names ways groups parts

-- The text is these bytes of a script and a plan of it.
pub record TellsAppliedPlan (script : ScriptValue) (j : JournalsValue) (bytes text : List ℕ) : Type 0 where
  pub parts : List DomainPart
  pub are_parts : AreParts script j parts
  pub is_text : text ≡ applied_text bytes script.names script.machine.ways (planned (tree_after script j.tree)) parts
