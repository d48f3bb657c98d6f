use Rattle.std.proofs.Common.{[], ◌∷◌, decimal, sym, arith, length-append}
use Rattle.file_view.proofs.tasks.push_task.Goals as goal
use Rattle.num_text.proofs.laws.Prints.{length-decimal}

pub returns-then-is_task_of-clause-short : goal.returns-then-is_task_of-clause-short
returns-then-is_task_of-clause-short c =
    let short = rw c.from.ensures at (length-decimal c.from.result c.from.type_inv) in
    rw (sym c.is_task_of.ensures, c.if-is_task_of.true) (omega (arith, short, length-append (decimal c.args.binding.now.task) (10 ∷ [])))
