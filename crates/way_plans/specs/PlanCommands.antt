-- The commands that the lines of a plan are, that they are answered with success, and that they make the plan.
-- (For functions and proofs: no promise of the program stands on it.)
use Rattle.std.specs.Prelude.{◌≡◌, ℕ, ◌+◌, ◌<◌, true, if◌then◌else◌, List, [], ◌∷◌, ◌++◌, get_or, length, map, codes, Some}
use Rattle.std.specs.List.{flat_map}
use Rattle.group_tree.specs.Records.{mask_in}
use Rattle.group_tree.specs.declared.group.Group.{Group}
use Rattle.machine.specs.declared.parameters.Parameters.{Parameters}
use Rattle.path_names.specs.declared.files.FileKind.{FileKind}
use Rattle.path_names.specs.declared.files.FileKind.TheVariants.{Mode as ModeFile, Schemata as SchemataFile}
use Rattle.path_names.specs.declared.path_ref.PathRef.TheVariants.{File}
use Rattle.rc_base.specs.declared.names.Mode.TheVariants.{Exclusive}
use Rattle.rc_base.specs.declared.replies.Reply.TheVariants as replies
use Rattle.run_law.specs.Journals.{JournalsValue}
use Rattle.run_law.specs.Runs.{IsRun}
use Rattle.run_law.specs.TreeHistory.{tree_after}
use Rattle.schemata_text.specs.Printed.{printed}
use Rattle.script_ops.specs.Canonical.{op_text}
use Rattle.script_ops.specs.Values.{IsLawful, ScriptValue}
use Rattle.script_ops.specs.declared.op.Op.{Op}
use Rattle.script_ops.specs.declared.op.Op.TheVariants.{Write}
use Rattle.tree_law.specs.Existing.{group_of}
use Rattle.tree_law.specs.State.{State}
use Rattle.tree_law.specs.Steps.{needs, next}
use Rattle.way_plans.specs.Masks.{mask_of, span_at}
use Rattle.way_plans.specs.PlanTexts.{DomainPart, dir_of, is_exclusive, is_whole, masks_at, script_lines}
use Rattle.way_plans.specs.Planned.{AreParts}
use Rattle.way_plans.specs.Plans.{planned}

-- ---- the commands

-- the command that writes a text to a file of a group
abbrev pub write_op : Group → FileKind → List ℕ → Op
write_op g file text = Write (File (dir_of g) file) text

-- the command that makes a group shareable
abbrev pub shareable_op : Group → Op
shareable_op g = write_op g ModeFile (codes "shareable")

-- the same, where the group is exclusive
abbrev pub shareable_ops : Group → List Op
shareable_ops g = if is_exclusive g.mode then shareable_op g ∷ [] else []

-- the command that makes a group exclusive
abbrev pub exclusive_op : Group → Op
exclusive_op g = write_op g ModeFile (codes "exclusive")

-- the command that gives the group at this place its ways in every domain
abbrev pub schemata_op : ℕ → List DomainPart → ℕ → Group → Op
schemata_op ways parts place g = write_op g SchemataFile (printed ways (masks_at place 0 parts))

-- the same of each group, from this place on
abbrev pub schemata_ops : ℕ → List DomainPart → ℕ → List Group → List Op
schemata_ops ways parts place [] = []
schemata_ops ways parts place (g ∷ gs) = schemata_op ways parts place g ∷ schemata_ops ways parts (place + 1) gs

-- the commands of a plan, where each domain has a division
abbrev pub plan_ops : ℕ → List Group → List DomainPart → List Op
plan_ops ways groups parts = if is_whole parts then flat_map shareable_ops groups ++ schemata_ops ways parts 0 groups ++ map exclusive_op groups else []

-- the line of a command
abbrev pub op_line : List (List ℕ) → Op → List ℕ
op_line names op = op_text names op ++ codes "\n"

-- ---- laws

-- the lines of a plan are the lines of its commands
abbrev pub LinesAreCommands : Type 0
LinesAreCommands = (names : List (List ℕ)) (ways : ℕ) (groups : List Group) (parts : List DomainPart) → script_lines names ways groups parts ≡ flat_map (op_line names) (plan_ops ways groups parts)

-- each of these commands, played one after the other from a state on, needs no counts and is answered with success
abbrev pub AreAnswered : Parameters → State → List Op → Type 0
AreAnswered m s [] = Unit {0}
AreAnswered m s (op ∷ ops) = (needs m s op ≡ []) × ((next m s op []).reply ≡ replies.Ok) × AreAnswered m (next m s op []).state ops

-- and so it is of the commands of a plan, from the state on that the script leaves
abbrev pub PlansAreAnswered : Type 0
PlansAreAnswered = (script : ScriptValue) (j : JournalsValue) (parts : List DomainPart) → IsLawful script → IsRun script j → AreParts script j parts
    → AreAnswered script.machine (tree_after script j.tree) (plan_ops script.machine.ways (planned (tree_after script j.tree)) parts)

-- the state after commands that need no counts
abbrev pub played : Parameters → State → List Op → State
played m s [] = s
played m s (op ∷ ops) = played m (next m s op []).state ops

-- A group of the plan, with its place, as such a state has it: it is exclusive, and has its ways in every domain.
pub record IsMade (m : Parameters) (s : State) (parts : List DomainPart) (place : ℕ) (g : Group) : Type 0 where
  pub group : Group
  pub found : group_of s g.gid ≡ Some group
  pub exclusive : group.mode ≡ Exclusive
  pub masks : (domain : ℕ) (d : DomainPart) → domain < m.domains → mask_in domain group ≡ mask_of (span_at (get_or parts domain d).spans place)

-- and where each domain has a division, so the commands of a plan leave each of its groups
abbrev pub PlansAreMade : Type 0
PlansAreMade = (script : ScriptValue) (j : JournalsValue) (parts : List DomainPart) → IsLawful script → IsRun script j → AreParts script j parts → is_whole parts ≡ true → (place : ℕ) (d : Group) → place < length (planned (tree_after script j.tree))
    → IsMade script.machine (played script.machine (tree_after script j.tree) (plan_ops script.machine.ways (planned (tree_after script j.tree)) parts)) parts place (get_or (planned (tree_after script j.tree)) place d)
