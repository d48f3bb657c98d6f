use Rattle.std.proofs.Common.{arith, refl, subst, ◌∙◌, ◌≡◌, ◌<◌, length}
use Rattle.step_world.proofs.NextPhases.{IsWorldOf-next, next_of}
use Rattle.step_world.proofs.PhaseSteps.{LetsGo-gone, phase_ended}
use Rattle.step_world.proofs.world.World.run_phase.Goals as goal
use Rattle.step_world.specs.Schedules.{GoesOn}
use Rattle.step_world.specs.Play.{EndInTurn, threads_of_phase}
use Rattle.step_world.specs.Worlds.{machine_of}

pub end_threads-requires-clause-phase : goal.end_threads-requires-clause-phase
end_threads-requires-clause-phase c = omega (arith, c.let_go.ensures.phase, c.step_in_order.ensures.phase, c.requires.phase)

-- all threads of the phase have ended
goes : (c : goal.After-self-1) → GoesOn c.args.script.now (machine_of c.end_threads.new.world) (machine_of (next_of c.end_threads.new.world))
goes c =
    let script = c.args.script.now in
    let before = machine_of c.let_go.new.world in
    let ended = machine_of c.end_threads.new.world in
    let below : before.phase < length script.phases = omega (arith, c.let_go.ensures.phase, c.step_in_order.ensures.phase, c.requires.phase) in
    record {
      ended = λ t is. phase_ended script before.phase before ended below c.end_threads.ensures.ends t (is ∙ c.end_threads.ensures.phase);
      journals = refl;
      holder = refl;
      threads = refl;
      phase = refl;
    }

pub returns-clause-world : goal.returns-clause-world
returns-clause-world c =
    let world = c.end_threads.new.world in
    IsWorldOf-next c.args.script.now world (omega (arith, c.end_threads.ensures.phase, c.let_go.ensures.phase, c.step_in_order.ensures.phase, c.requires.phase)) c.end_threads.ensures.free (goes c) c.end_threads.ensures.world

pub returns-clause-plays : goal.returns-clause-plays
returns-clause-plays c =
    let script = c.args.script.now in
    let ordered = machine_of c.step_in_order.new.world in
    let free = machine_of c.let_go.new.world in
    let ended = machine_of c.end_threads.new.world in
    let phase : free.phase ≡ c.args.self.now.phase = c.let_go.ensures.phase ∙ c.step_in_order.ensures.phase in
    record {
      ordered = ordered;
      free = free;
      ended = ended;
      order = c.step_in_order.ensures.steps;
      lets_go = LetsGo-gone script ordered.holder ordered free c.let_go.ensures.lets_go;
      rest = subst (λ p. EndInTurn script (threads_of_phase script p) free ended) phase c.end_threads.ensures.ends;
      next = goes c;
    }
