use Rattle.std.proofs.Common.{◌∷◌, [], get_or, take, arith, subst, sym, ◌∙◌}
use Rattle.std.proofs.lemmas.List.{take_more}
use Rattle.step_world.proofs.PhaseSteps.{StepsOf-append, StepsOf-one}
use Rattle.step_world.proofs.laws.Plays.{step_phase}
use Rattle.step_world.proofs.run_phase.step_in_order.Goals as goal
use Rattle.step_world.specs.Listed.{AreOf}
use Rattle.step_world.specs.Play.{StepsOf}
use Rattle.step_world.specs.Worlds.{machine_of}

pub step_listed-requires-clause-phase : goal.step_listed-requires-clause-phase
step_listed-requires-clause-phase c = omega (arith, c.loop-t.invariant.phase, c.requires.phase)

pub step_listed-requires-clause-present : goal.step_listed-requires-clause-present
step_listed-requires-clause-present c = subst (λ p. AreOf c.args.script.now p c.of-present.result) (sym c.loop-t.invariant.phase) c.of-present.ensures

pub loop-t-preserved : goal.loop-t-preserved
loop-t-preserved c =
    let script = c.args.script.now in
    let order = c.args.order.now in
    let k = c.loop-t.t-index in
    let t = get_or order k 0 in
    let first = machine_of c.args.world.now in
    let now = machine_of c.loop-t.world in
    let new = machine_of c.step_listed.new.world in
    let told = c.step_listed.ensures in
    record {
      world = told.world;
      steps = subst (λ ts. StepsOf script ts first new) (sym (take_more order k 0 c.loop-t-test.true)) (StepsOf-append script (take k order) (t ∷ []) first now new c.loop-t.invariant.steps (StepsOf-one script t now new told.steps));
      phase = step_phase script t now new told.steps ∙ c.loop-t.invariant.phase;
      cached = told.cached;
    }
