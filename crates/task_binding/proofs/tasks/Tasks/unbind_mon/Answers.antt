use Rattle.std.proofs.Common.{length, sym, ap, arith}
use Rattle.task_binding.specs.Bindings.{has_monitor, counted, opening_binding}
use Rattle.task_binding.proofs.Changes.{ChangedTo-step, changed-no_member}
use Rattle.task_binding.proofs.tasks.Tasks.unbind_mon.Goals as goal

pub returns-then-not-has_mon_member : goal.returns-then-not-has_mon_member
returns-then-not-has_mon_member c = sym (changed-no_member (has_monitor c.args.group) (counted c.args.parent) c.args.self.now (sym c.if-not-has_mon_member.ensures))

pub loop-place-preserved : goal.loop-place-preserved
loop-place-preserved c = ChangedTo-step (has_monitor c.args.group) (counted c.args.parent) c.args.self.now c.loop-place.self c.unbind_mon_at.new.self c.loop-place.place (opening_binding 0) (omega (arith, c.loop-place.invariant.long, ap length c.self.view_is, c.self.inside.bindings.ok.0)) c.unbind_mon_at.ensures c.loop-place.invariant
