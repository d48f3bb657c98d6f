use Rattle.std.proofs.Common.{◌<◌, ◌∙◌, ap, arith, length, subst, sym}
use Rattle.std.specs.Prelude.{OnOk}
use Rattle.live_tests.proofs.Phases.{first_of_phase}
use Rattle.live_tests.proofs.Threads.{IsFirst-begun}
use Rattle.live_tests.proofs.tests.hands.Hands.make_first.Goals as goal
use Rattle.live_tests.specs.Turns.{HasMade}
use Rattle.script_ops.specs.Values.{ScriptValue, ops_of, threads_of}

pub begin-requires : goal.begin-requires
begin-requires g c =
    let self = c.args.self.now in
    record { may = first_of_phase g.N.RunNames.script _ _ c.requires.turns g.T.NamedTable.table self.first self.turn c.requires.first c.requires.turn }

pub ops-requires : goal.ops-requires
ops-requires g c = subst (λ (s : ScriptValue). 0 < length (threads_of s)) (sym c.requires.script) (omega (arith, c.requires.turns.threads))

pub take_turn-requires-clause-made : goal.take_turn-requires-clause-made
take_turn-requires-clause-made g c = IsFirst-begun 0 c.args.self.now.first c.begin.new.p c.begin.ensures.begun c.requires.first

pub returns-clause-first : goal.returns-clause-first
returns-clause-first g c =
    let script = g.N.RunNames.script in
    let all = c.len-count.ensures ∙ (ap length c.ops.ensures.ops ∙ ap (λ (s : ScriptValue). length (ops_of s 0)) c.requires.script) in
    subst (λ n. OnOk c.take_turn.result (HasMade 0 n c.take_turn.new.p)) all c.take_turn.ensures.made
