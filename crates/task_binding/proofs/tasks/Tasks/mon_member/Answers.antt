use Rattle.std.proofs.Common.{List, subst}
use Rattle.std.specs.List.Sorted.{IsStrictlyIncreasing}
use Rattle.task_binding.specs.declared.binding.Binding.{Binding}
use Rattle.task_binding.specs.Bindings.{monitor_members, has_monitor}
use Rattle.task_binding.proofs.Order.{IsStrictlyIncreasing-filter}
use Rattle.task_binding.proofs.tasks.Tasks.mon_member.Goals as goal

pub returns-clause-rising : goal.returns-clause-rising
returns-clause-rising c = subst (λ (xs : List Binding). IsStrictlyIncreasing (monitor_members c.args.group xs)) c.self.view_is (IsStrictlyIncreasing-filter (has_monitor c.args.group) c.self.inside.bindings.items c.self.invariant.0)
