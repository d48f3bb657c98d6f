use Rattle.std.proofs.Common.{[], ◌∷◌, arith}
use Rattle.live_run.specs.Sharing.{IsShareOf}
use Rattle.live_tests.proofs.Phases.{IsEndedIn-next, IsShareOf-ended, at_second, has_passed, lock_there, may_pass, second_over}
use Rattle.live_tests.proofs.Threads.{IsAtEnd-made}
use Rattle.live_tests.proofs.tests.hands.Hands.end_others.Goals as goal
use Rattle.schedule_law.specs.LiveParts.{live_phase}

pub end-requires : goal.end-requires
end-requires g c =
    let script = g.N.RunNames.script in
    let table = g.T.NamedTable.table in
    let self = c.args.self.now in
    let made = c.requires.made.second_made in
    record {
      may = IsEndedIn-next script table 1 1 self.second self.turn (at_second script _ _ c.requires.turns table self.turn c.requires.made.turn_is) made.thread_is (IsAtEnd-made script 1 _ self.second made c.requires.turns.second_ops);
    }

pub end-requires-2 : goal.end-requires-2
end-requires-2 g c =
    let script = g.N.RunNames.script in
    let table = g.T.NamedTable.table in
    let self = c.args.self.now in
    let made = c.requires.made.third_made in
    let second : IsShareOf table (live_phase 1 2 ∷ []) c.end.new.turn = IsShareOf-ended table 1 1 self.turn c.end.new.turn (at_second script _ _ c.requires.turns table self.turn c.requires.made.turn_is) c.end.ensures.turn in
    record {
      may = IsEndedIn-next script table 1 2 self.third c.end.new.turn second made.thread_is (IsAtEnd-made script 2 _ self.third made c.requires.turns.third_ops);
    }

pub pass-requires-clause-lock : goal.pass-requires-clause-lock
pass-requires-clause-lock g c =
    let script = g.N.RunNames.script in
    let table = g.T.NamedTable.table in
    lock_there script table 1 c.end-2.new.turn (omega (arith, c.requires.turns.phases)) (second_over script _ _ c.requires.turns table c.args.self.now.turn c.end.new.turn c.end-2.new.turn c.requires.made.turn_is c.end.ensures.turn c.end-2.ensures.turn)

pub pass-requires-clause-may : goal.pass-requires-clause-may
pass-requires-clause-may g c =
    let script = g.N.RunNames.script in
    let table = g.T.NamedTable.table in
    may_pass script table 1 c.end-2.new.turn (omega (arith, c.requires.turns.phases)) (second_over script _ _ c.requires.turns table c.args.self.now.turn c.end.new.turn c.end-2.new.turn c.requires.made.turn_is c.end.ensures.turn c.end-2.ensures.turn)

pub returns-clause-turn : goal.returns-clause-turn
returns-clause-turn g c =
    let script = g.N.RunNames.script in
    let table = g.T.NamedTable.table in
    let over = second_over script _ _ c.requires.turns table c.args.self.now.turn c.end.new.turn c.end-2.new.turn c.requires.made.turn_is c.end.ensures.turn c.end-2.ensures.turn in
    has_passed script table 1 c.end-2.new.turn (omega (arith, c.requires.turns.phases)) over c.pass.new.phase c.pass.ensures.table c.pass.ensures.phase
