use Rattle.std.proofs.Common.{◌∙◌}
use Rattle.task_binding.specs.Bindings.{opening_binding}
use Rattle.task_binding.proofs.Order.{All-task_differs}
use Rattle.task_binding.proofs.search.place_of.Goals as goal

pub returns-then-from-task-clause-nowhere : goal.returns-then-from-task-clause-nowhere
returns-then-from-task-clause-nowhere c = All-task_differs c.args.task c.args.bindings.now c.lower_bound-place.result (opening_binding 0) c.requires c.lower_bound-place.ensures.below c.lower_bound-place.ensures.above
    (λ e. c.if-from-task.true (c.from.ensures ∙ e))
