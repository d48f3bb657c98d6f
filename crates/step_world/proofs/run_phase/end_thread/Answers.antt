use Rattle.std.proofs.Common.{◌≡◌, ◌+◌, Some, None, sym, ap, ◌∙◌, subst}
use Rattle.std.specs.Prelude.{is_some, slice_get}
use Rattle.script_ops.specs.Values.{op_at}
use Rattle.script_ops.specs.declared.op.Op.{Op}
use Rattle.step_world.proofs.PhaseSteps.{StepsOf-more}
use Rattle.step_world.proofs.Turns.{ended-none}
use Rattle.step_world.proofs.run_phase.end_thread.Goals as goal
use Rattle.step_world.specs.Machine.{thread_at}
use Rattle.step_world.specs.Worlds.{machine_of}
use Rattle.step_world.specs.declared.thread_state.Thread.{Thread}

pub take_turn-requires-clause-next : goal.take_turn-requires-clause-next
take_turn-requires-clause-next c =
    let inv = c.loop-op.invariant in
    record {
      present = c.requires.present ∙ sym inv.phase;
      is = subst (λ os. slice_get os (thread_at (machine_of c.loop-op.world) c.args.t).next ≡ Some c.in-Some.op) c.ops-ops.ensures.ops (sym c.in-Some.ensures) ∙ ap (λ (o : Op). Some o) (sym c.get.ensures);
    }

pub loop-op-smaller : goal.loop-op-smaller
loop-op-smaller c = c.take_turn.ensures.turn.nearer

pub loop-op-preserved : goal.loop-op-preserved
loop-op-preserved c =
    let script = c.args.script.now in
    let inv = c.loop-op.invariant in
    let turn = c.take_turn.ensures.turn in
    record {
      world = c.take_turn.ensures.world;
      steps = (inv.steps.0 + turn.count, StepsOf-more script c.args.t inv.steps.0 turn.count (machine_of c.args.world.now) (machine_of c.loop-op.world) (machine_of c.take_turn.new.world) inv.steps.1 turn.steps);
      free = turn.free;
      phase = turn.phase ∙ inv.phase;
      count = c.take_turn.ensures.world.threads ∙ sym c.requires.world.threads;
    }

pub loop-op-preserved-in-Some : goal.loop-op-preserved-in-Some
loop-op-preserved-in-Some c =
    let script = c.args.script.now in
    let inv = c.loop-op.invariant in
    let turn = c.take_turn.ensures.turn in
    record {
      world = c.take_turn.ensures.world;
      steps = (inv.steps.0 + turn.count, StepsOf-more script c.args.t inv.steps.0 turn.count (machine_of c.args.world.now) (machine_of c.loop-op.world) (machine_of c.take_turn.new.world) inv.steps.1 turn.steps);
      free = turn.free;
      phase = turn.phase ∙ inv.phase;
      count = c.take_turn.ensures.world.threads ∙ sym c.requires.world.threads;
    }

pub loop-op-preserved-in-Some-2 : goal.loop-op-preserved-in-Some-2
loop-op-preserved-in-Some-2 c =
    let script = c.args.script.now in
    let inv = c.loop-op.invariant in
    let turn = c.take_turn.ensures.turn in
    record {
      world = c.take_turn.ensures.world;
      steps = (inv.steps.0 + turn.count, StepsOf-more script c.args.t inv.steps.0 turn.count (machine_of c.args.world.now) (machine_of c.loop-op.world) (machine_of c.take_turn.new.world) inv.steps.1 turn.steps);
      free = turn.free;
      phase = turn.phase ∙ inv.phase;
      count = c.take_turn.ensures.world.threads ∙ sym c.requires.world.threads;
    }

pub returns-clause-ends : goal.returns-clause-ends
returns-clause-ends c =
    let inv = c.loop-op.invariant in
    let v : Thread = thread_at (machine_of c.loop-op.world) c.args.t in
    let none : op_at c.args.script.now c.args.t v.next ≡ None = subst (λ os. slice_get os v.next ≡ None) c.ops-ops.ensures.ops (sym c.in_default.ensures) in
    record {
      count = inv.steps.0;
      steps = inv.steps.1;
      ended = ended-none c.args.script.now c.args.t v (inv.world.within c.args.t) (ap is_some none);
    }
