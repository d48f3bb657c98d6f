use Rattle.std.proofs.Common.{◌≡◌, length}
use Rattle.command_parts.proofs.laws.TaskElements.{pieces}
use Rattle.tree_law.specs.commands.Tasks.{elements, moves}
use Rattle.command_parts.proofs.task_moves.move_tasks.Given as goal

abbrev pub invariant-elements : goal.invariant-elements
invariant-elements l = record { rest : moves l.gid l.kind (pieces l.left) l.tasks ≡ moves l.gid l.kind (elements l.text) l.initial.tasks }

abbrev pub decreases-elements : goal.decreases-elements
decreases-elements l = length l.left
