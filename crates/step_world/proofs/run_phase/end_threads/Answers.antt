use Rattle.std.proofs.Common.{arith, sym, ◌∙◌, ◌+◌}
use Rattle.step_world.proofs.PhaseSteps.{EndInTurn-suc}
use Rattle.run_law.proofs.laws.PhaseThreads.{in_phase}
use Rattle.step_world.proofs.run_phase.end_threads.Goals as goal
use Rattle.step_world.specs.Worlds.{machine_of}

pub end_thread-requires-clause-present : goal.end_thread-requires-clause-present
end_thread-requires-clause-present c =
    let script = c.args.script.now in
    let phase = c.args.world.now.phase in
    in_phase script phase (c.first_thread-first.result + c.loop-k.k) c.requires.phase (omega (arith, c.first_thread-first.ensures.first)) (omega (arith, c.first_thread-first.ensures.first, c.loop-k-test.true, c.thread_count-k-end.ensures.count)) ∙ sym c.loop-k.invariant.phase

pub loop-k-preserved : goal.loop-k-preserved
loop-k-preserved c =
    let script = c.args.script.now in
    let inv = c.loop-k.invariant in
    record {
      world = c.end_thread.ensures.world;
      ends = EndInTurn-suc script c.first_thread-first.result c.loop-k.k (machine_of c.args.world.now) (machine_of c.loop-k.world) (machine_of c.end_thread.new.world) inv.ends c.end_thread.ensures.ends;
      free = c.end_thread.ensures.free;
      phase = c.end_thread.ensures.phase ∙ inv.phase;
    }
