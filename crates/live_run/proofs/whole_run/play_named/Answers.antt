use Rattle.std.proofs.Common.{◌≡◌, ap, arith, length, subst}
use Rattle.live_run.proofs.whole_run.play_named.Goals as goal
use Rattle.live_run.specs.Phases.{AreBefore}
use Rattle.live_run.specs.Sharing.{IsAtPhase}
use Rattle.script_ops.specs.Values.{ScriptValue}

pub close-requires-clause-before : goal.close-requires-clause-before
close-requires-clause-before g c =
    let script = g.N.RunNames.script in
    let all : c.loop-phase.phase ≡ length script.phases = omega (arith, c.loop-phase-test.false, c.loop-phase.auto.phase-end, c.phases-phase-end.ensures.phases, ap (λ (s : ScriptValue). length s.phases) c.requires.script) in
    subst (λ n. AreBefore script n c.loop-phase.passes.items) all c.loop-phase.invariant.before

pub close-requires-clause-turn : goal.close-requires-clause-turn
close-requires-clause-turn g c =
    let script = g.N.RunNames.script in
    let all : c.loop-phase.phase ≡ length script.phases = omega (arith, c.loop-phase-test.false, c.loop-phase.auto.phase-end, c.phases-phase-end.ensures.phases, ap (λ (s : ScriptValue). length s.phases) c.requires.script) in
    subst (λ n. IsAtPhase script g.T.NamedTable.table n c.loop-phase.turn) all c.loop-phase.invariant.turn
