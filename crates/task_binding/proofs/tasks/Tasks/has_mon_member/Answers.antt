use Rattle.std.proofs.Common.{List, is_some, nat_lt, slice_get, vec_capacity, ap, ◌∙◌}
use Rattle.task_binding.specs.Bindings.{monitor_members, has_monitor}
use Rattle.task_binding.specs.GroupCounts.{count_in}
use Rattle.task_binding.specs.declared.binding.Binding.{Binding}
use Rattle.task_binding.specs.declared.counts.GroupCount.{GroupCount}
use Rattle.task_binding.proofs.Counted.{is_some-member}
use Rattle.task_binding.proofs.tasks.Tasks.has_mon_member.Goals as goal

pub returns : goal.returns
returns c =
    c.has_tasks.ensures
    ∙ ap (λ (counts : List GroupCount). nat_lt 0 (count_in c.args.group counts)) c.deref.ensures.value
    ∙ is_some-member has_monitor c.self.inside.bindings.items c.self.inside.monitors.items (vec_capacity c.self.inside.monitors) c.self.invariant.2 c.args.group
    ∙ ap (λ (xs : List Binding). is_some (slice_get (monitor_members c.args.group xs) 0)) c.self.view_is
