use Rattle.std.proofs.Common.{length, sym, ap, arith}
use Rattle.rc_base.specs.Gids.{default_gid}
use Rattle.task_binding.specs.Bindings.{has_control, joined, opening_binding}
use Rattle.task_binding.proofs.Changes.{ChangedTo-step, changed-no_member}
use Rattle.task_binding.proofs.tasks.Tasks.unbind_ctrl.Goals as goal

pub returns-then-not-has_ctrl_member : goal.returns-then-not-has_ctrl_member
returns-then-not-has_ctrl_member c = sym (changed-no_member (has_control c.args.group) (joined default_gid) c.args.self.now (sym c.if-not-has_ctrl_member.ensures))

pub loop-place-preserved : goal.loop-place-preserved
loop-place-preserved c = ChangedTo-step (has_control c.args.group) (joined default_gid) c.args.self.now c.loop-place.self c.unbind_ctrl_at.new.self c.loop-place.place (opening_binding 0) (omega (arith, c.loop-place.invariant.long, ap length c.self.view_is, c.self.inside.bindings.ok.0)) c.unbind_ctrl_at.ensures c.loop-place.invariant
