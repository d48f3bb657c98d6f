use Rattle.std.proofs.Common.{◌+◌, ◌-◌, ◌/◌, arith}
use Rattle.task_binding.specs.Bindings.{opening_binding}
use Rattle.task_binding.proofs.Order.{get_or-task_below, get_or-task_above}
use Rattle.task_binding.proofs.search.lower_bound.Goals as goal

pub loop-low-preserved-then-from-task : goal.loop-low-preserved-then-from-task
loop-low-preserved-then-from-task c = record {
  order = omega arith;
  within = omega arith;
  below = get_or-task_below c.args.task c.args.bindings.now (c.loop-low.low + (c.loop-low.high - c.loop-low.low) / 2) (opening_binding 0) c.requires (omega arith) (omega (arith, c.from.ensures, c.if-from-task.true));
  above = c.loop-low.invariant.above;
}

pub loop-low-preserved : goal.loop-low-preserved
loop-low-preserved c = record {
  order = omega arith;
  within = omega arith;
  below = c.loop-low.invariant.below;
  above = get_or-task_above c.args.task c.args.bindings.now (c.loop-low.low + (c.loop-low.high - c.loop-low.low) / 2) (opening_binding 0) c.requires (omega (arith, c.from.ensures, c.if-from-task.false));
}
