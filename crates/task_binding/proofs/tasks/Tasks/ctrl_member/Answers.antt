use Rattle.std.proofs.Common.{List, subst}
use Rattle.std.specs.List.Sorted.{IsStrictlyIncreasing}
use Rattle.task_binding.specs.declared.binding.Binding.{Binding}
use Rattle.task_binding.specs.Bindings.{control_members, has_control}
use Rattle.task_binding.proofs.Order.{IsStrictlyIncreasing-filter}
use Rattle.task_binding.proofs.tasks.Tasks.ctrl_member.Goals as goal

pub returns-clause-rising : goal.returns-clause-rising
returns-clause-rising c = subst (λ (xs : List Binding). IsStrictlyIncreasing (control_members c.args.group xs)) c.self.view_is (IsStrictlyIncreasing-filter (has_control c.args.group) c.self.inside.bindings.items c.self.invariant.0)
