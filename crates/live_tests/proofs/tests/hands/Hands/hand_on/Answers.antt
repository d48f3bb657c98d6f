use Rattle.std.proofs.Common.{arith, length, refl}
use Rattle.live_tests.proofs.Threads.{HasMade-handed, other_ready}
use Rattle.live_tests.proofs.tests.hands.Hands.hand_on.Goals as goal
use Rattle.script_ops.specs.Values.{ops_of}

pub begin_others-requires-clause-first : goal.begin_others-requires-clause-first
begin_others-requires-clause-first g c =
    HasMade-handed 0 _ c.hand_on.new.earlier c.hand_on-2.new.earlier
    (HasMade-handed 0 _ c.args.self.now.first c.hand_on.new.earlier c.requires.first c.hand_on.ensures.earlier (c.hand_on.ensures.next).0 (c.hand_on.ensures.begun).0)
    c.hand_on-2.ensures.earlier (c.hand_on-2.ensures.next).0 (c.hand_on-2.ensures.begun).0

pub begin_others-requires-clause-second : goal.begin_others-requires-clause-second
begin_others-requires-clause-second g c =
    other_ready g.N.RunNames.script _ _ c.requires.turns 1 (length (ops_of g.N.RunNames.script 0)) c.args.self.now.first c.args.self.now.second c.hand_on.new.later (omega arith) c.requires.first refl c.requires.second
    c.hand_on.ensures.later (c.hand_on.ensures.next).1 (c.hand_on.ensures.shown).1 c.hand_on.ensures.ended

pub begin_others-requires-clause-third : goal.begin_others-requires-clause-third
begin_others-requires-clause-third g c =
    other_ready g.N.RunNames.script _ _ c.requires.turns 2 (length (ops_of g.N.RunNames.script 0)) c.hand_on.new.earlier c.args.self.now.third c.hand_on-2.new.later (omega arith)
    (HasMade-handed 0 _ c.args.self.now.first c.hand_on.new.earlier c.requires.first c.hand_on.ensures.earlier (c.hand_on.ensures.next).0 (c.hand_on.ensures.begun).0) refl c.requires.third
    c.hand_on-2.ensures.later (c.hand_on-2.ensures.next).1 (c.hand_on-2.ensures.shown).1 c.hand_on-2.ensures.ended

pub returns : goal.returns
returns g c =
    let are = c.begin_others.ensures in
    record { turn_is = are.turn; first_made = are.first; second_made = are.second; third_made = are.third }
