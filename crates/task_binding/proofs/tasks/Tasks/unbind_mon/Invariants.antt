use Rattle.task_binding.specs.Bindings.{has_monitor, counted}
use Rattle.task_binding.proofs.Changes.{ChangedTo}
use Rattle.task_binding.proofs.tasks.Tasks.unbind_mon.Given as goal

abbrev pub invariant-loop-place : goal.invariant-loop-place
invariant-loop-place l = ChangedTo (has_monitor l.group) (counted l.parent) l.initial.self l.self l.place
