use Rattle.std.proofs.Common.{List, is_some, nat_lt, slice_get, vec_capacity, ap, ◌∙◌}
use Rattle.task_binding.specs.Bindings.{control_members, has_control}
use Rattle.task_binding.specs.GroupCounts.{count_in}
use Rattle.task_binding.specs.declared.binding.Binding.{Binding}
use Rattle.task_binding.specs.declared.counts.GroupCount.{GroupCount}
use Rattle.task_binding.proofs.Counted.{is_some-member}
use Rattle.task_binding.proofs.tasks.Tasks.has_ctrl_member.Goals as goal

pub returns : goal.returns
returns c =
    c.has_tasks.ensures
    ∙ ap (λ (counts : List GroupCount). nat_lt 0 (count_in c.args.group counts)) c.deref.ensures.value
    ∙ is_some-member has_control c.self.inside.bindings.items c.self.inside.controls.items (vec_capacity c.self.inside.controls) c.self.invariant.1 c.args.group
    ∙ ap (λ (xs : List Binding). is_some (slice_get (control_members c.args.group xs) 0)) c.self.view_is
