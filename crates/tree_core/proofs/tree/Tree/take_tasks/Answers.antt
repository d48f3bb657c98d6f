use Rattle.std.proofs.Common.{arith, sym, subst}
use Rattle.tree_core.proofs.KeptTables.{IsKept-from_Keeps, Keeps-from_IsKept}
use Rattle.tree_core.proofs.WrittenTasks.{Keeps-with_tasks}
use Rattle.command_parts.proofs.laws.TaskElements.{length-moves}
use Rattle.tree_core.specs.Values.{TreeValue}
use Rattle.tree_law.specs.Sound.{IsSound}
use Rattle.tree_law.specs.commands.Tasks.{elements, moves, moves_in}
use Rattle.tree_core.proofs.tree.Tree.take_tasks.Goals as goal

pub invariant_of-self : goal.invariant_of-self
invariant_of-self c =
    let t = c.self.inside in let g = c.args.group.now in let keeps = Keeps-from_IsKept c.self.invariant in
    IsKept-from_Keeps (Keeps-with_tasks (moves g.gid g.kind (elements c.args.text.now) t.tasks).tasks c.move_tasks.new.tasks keeps c.move_tasks.ensures.tasks
    (subst (λ (v : TreeValue). IsSound v.machine (record v.state { tasks = (moves_in v.state g c.args.text.now).tasks })) (sym c.self.view_is) c.requires.sound)
    (omega (arith, length-moves g.gid g.kind (elements c.args.text.now) t.tasks, keeps.few_tasks)))
