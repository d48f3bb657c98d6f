use Rattle.std.proofs.Common.{ap, arith, refl, ◌∙◌}
use Rattle.step_world.proofs.HeldSteps.{held_step}
use Rattle.step_world.proofs.PhaseSteps.{IsLettingGo-step}
use Rattle.step_world.proofs.laws.Plays.{step_phase}
use Rattle.step_world.proofs.run_phase.let_go.Goals as goal
use Rattle.step_world.specs.Turns.{holding_left}
use Rattle.step_world.specs.Worlds.{machine_of}

pub loop-world-smaller : goal.loop-world-smaller
loop-world-smaller c =
    let script = c.args.script.now in
    let now = machine_of c.loop-world.world in
    let has = held_step script c.in-Some.t now (machine_of c.step.new.self) c.loop-world.invariant.world.so_far c.in-Some.is c.step.ensures.steps in
    omega (arith, has.less, ap (holding_left script now) c.in-Some.is)

pub loop-world-preserved : goal.loop-world-preserved
loop-world-preserved c =
    let script = c.args.script.now in
    let first = machine_of c.args.world.now in
    let now = machine_of c.loop-world.world in
    let new = machine_of c.step.new.self in
    record {
      world = c.step.ensures.world;
      going = IsLettingGo-step script c.args.world.now.holder c.in-Some.t first now new refl c.loop-world.invariant.world.so_far c.in-Some.is c.step.ensures.steps c.loop-world.invariant.going;
      phase = step_phase script c.in-Some.t now new c.step.ensures.steps ∙ c.loop-world.invariant.phase;
    }
