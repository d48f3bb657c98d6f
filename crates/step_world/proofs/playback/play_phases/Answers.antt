use Rattle.std.proofs.Common.{◌+◌, ◌<◌, ◌≡◌, [], List, ap, arith, length, sym, subst, take, ◌∙◌}
use Rattle.std.proofs.lemmas.List.{map_more, take_all}
use Rattle.script_ops.specs.Values.{PhaseValue, phase_at}
use Rattle.step_world.proofs.PhaseSteps.{PlaysPhasesBy-push}
use Rattle.step_world.proofs.laws.Plays.{phase_count}
use Rattle.step_world.proofs.playback.play_phases.Goals as goal
use Rattle.step_world.specs.Play.{PlaysPhaseBy, PlaysPhasesBy, orders_of}
use Rattle.step_world.specs.Worlds.{machine_of}

pub loop-phase-preserved : goal.loop-phase-preserved
loop-phase-preserved c =
    let script = c.args.script.now in
    let k = c.loop-phase.phase in
    let first = machine_of c.args.world.now in
    let now = machine_of c.loop-phase.world in
    let new = machine_of c.run_phase.new.self in
    let phase : PlaysPhaseBy script (phase_at script k).order now new = subst (λ os. PlaysPhaseBy script os now new) c.order.ensures c.run_phase.ensures.plays in
    let there : k < length script.phases = omega (arith, c.loop-phase-test.true) in
    record {
      world = c.run_phase.ensures.world;
      phases = subst (λ os. PlaysPhasesBy script os first new) (sym (map_more (λ (p : PhaseValue). p.order) script.phases k (record { order = []; threads = [] }) there))
          (PlaysPhasesBy-push script (orders_of (take k script.phases)) (phase_at script k).order first now new c.loop-phase.invariant.phases phase);
      now = phase_count script _ now new phase ∙ ap (λ p. p + 1) c.loop-phase.invariant.now;
    }

pub returns-clause-phases : goal.returns-clause-phases
returns-clause-phases c =
    let script = c.args.script.now in
    let all : take c.loop-phase.phase script.phases ≡ script.phases = take_all c.loop-phase.phase script.phases (omega (arith, c.loop-phase-test.false)) in
    subst (λ (ps : List PhaseValue). PlaysPhasesBy script (orders_of ps) (machine_of c.args.world.now) (machine_of c.loop-phase.world)) all c.loop-phase.invariant.phases
