use Rattle.std.proofs.Common.{refl, subst, sym}
use Rattle.task_binding.specs.Bindings.{AreRising, has_control, has_monitor}
use Rattle.task_binding.proofs.Counted.{AreCounts-created}
use Rattle.task_binding.proofs.Order.{AreRising-opening}
use Rattle.task_binding.proofs.tasks.Tasks.create.Goals as goal

pub invariant_of-result : goal.invariant_of-result
invariant_of-result c = (
  subst AreRising (sym c.in_ok-bindings.ensures) (AreRising-opening c.args.ids.now c.requires),
  AreCounts-created has_control (λ group id. refl) c.args.ids.now _ _ _ _ c.in_ok-bindings.ensures refl c.in_ok-controls.ensures.counts c.in_ok-controls.ensures.room,
  AreCounts-created has_monitor (λ group id. refl) c.args.ids.now _ _ _ _ c.in_ok-bindings.ensures refl c.in_ok-monitors.ensures.counts c.in_ok-monitors.ensures.room,
)
