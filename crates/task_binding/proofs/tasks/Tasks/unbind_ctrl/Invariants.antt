use Rattle.rc_base.specs.Gids.{default_gid}
use Rattle.task_binding.specs.Bindings.{has_control, joined}
use Rattle.task_binding.proofs.Changes.{ChangedTo}
use Rattle.task_binding.proofs.tasks.Tasks.unbind_ctrl.Given as goal

abbrev pub invariant-loop-place : goal.invariant-loop-place
invariant-loop-place l = ChangedTo (has_control l.group) (joined default_gid) l.initial.self l.self l.place
