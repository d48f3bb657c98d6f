use Rattle.std.proofs.Common.{◌∙◌, arith, refl, subst, sym}
use Rattle.live_run.specs.Sharing.{IsAtPhase}
use Rattle.live_tests.proofs.Phases.{IsEndedIn-next, at_first, first_over, has_passed, lock_there, may_pass, other_of_phase}
use Rattle.live_tests.proofs.Threads.{IsAtEnd-made, IsFirst-begun}
use Rattle.live_tests.proofs.tests.hands.Hands.begin_others.Goals as goal
use Rattle.live_tests.specs.Turns.{HasMade}

pub end-requires : goal.end-requires
end-requires g c =
    let script = g.N.RunNames.script in
    let table = g.T.NamedTable.table in
    let self = c.args.self.now in
    record {
      may = IsEndedIn-next script table 0 0 self.first self.turn (at_first script _ _ c.requires.turns table self.turn c.requires.turn) c.requires.first.thread_is (IsAtEnd-made script 0 _ self.first c.requires.first refl);
    }

pub pass-requires-clause-lock : goal.pass-requires-clause-lock
pass-requires-clause-lock g c =
    let script = g.N.RunNames.script in
    let table = g.T.NamedTable.table in
    lock_there script table 0 c.end.new.turn (omega (arith, c.requires.turns.phases)) (first_over script _ _ c.requires.turns table c.args.self.now.turn c.end.new.turn c.requires.turn c.end.ensures.turn)

pub pass-requires-clause-may : goal.pass-requires-clause-may
pass-requires-clause-may g c =
    let script = g.N.RunNames.script in
    let table = g.T.NamedTable.table in
    may_pass script table 0 c.end.new.turn (omega (arith, c.requires.turns.phases)) (first_over script _ _ c.requires.turns table c.args.self.now.turn c.end.new.turn c.requires.turn c.end.ensures.turn)

pub begin-requires : goal.begin-requires
begin-requires g c =
    let script = g.N.RunNames.script in
    let table = g.T.NamedTable.table in
    let over = first_over script _ _ c.requires.turns table c.args.self.now.turn c.end.new.turn c.requires.turn c.end.ensures.turn in
    let at : IsAtPhase script table 1 c.pass.new.phase = has_passed script table 0 c.end.new.turn (omega (arith, c.requires.turns.phases)) over c.pass.new.phase c.pass.ensures.table c.pass.ensures.phase in
    record { may = other_of_phase script _ _ c.requires.turns table 1 c.args.self.now.second c.pass.new.phase (omega arith) c.requires.second at }

pub begin-requires-2 : goal.begin-requires-2
begin-requires-2 g c =
    let script = g.N.RunNames.script in
    let table = g.T.NamedTable.table in
    let over = first_over script _ _ c.requires.turns table c.args.self.now.turn c.end.new.turn c.requires.turn c.end.ensures.turn in
    let at : IsAtPhase script table 1 c.pass.new.phase = has_passed script table 0 c.end.new.turn (omega (arith, c.requires.turns.phases)) over c.pass.new.phase c.pass.ensures.table c.pass.ensures.phase in
    record { may = other_of_phase script _ _ c.requires.turns table 2 c.args.self.now.third c.begin.new.turn (omega arith) c.requires.third (subst (IsAtPhase script table 1) (sym c.begin.ensures.turn) at) }

pub returns-clause-turn : goal.returns-clause-turn
returns-clause-turn g c =
    let script = g.N.RunNames.script in
    let table = g.T.NamedTable.table in
    let over = first_over script _ _ c.requires.turns table c.args.self.now.turn c.end.new.turn c.requires.turn c.end.ensures.turn in
    let at : IsAtPhase script table 1 c.pass.new.phase = has_passed script table 0 c.end.new.turn (omega (arith, c.requires.turns.phases)) over c.pass.new.phase c.pass.ensures.table c.pass.ensures.phase in
    subst (IsAtPhase script table 1) (sym (c.begin-2.ensures.turn ∙ c.begin.ensures.turn)) at

pub returns-clause-first : goal.returns-clause-first
returns-clause-first g c = subst (HasMade 0 _) (sym c.end.ensures.same) c.requires.first

pub returns-clause-second : goal.returns-clause-second
returns-clause-second g c = IsFirst-begun 1 c.args.self.now.second c.begin.new.p c.begin.ensures.begun c.requires.second.first_is

pub returns-clause-third : goal.returns-clause-third
returns-clause-third g c = IsFirst-begun 2 c.args.self.now.third c.begin-2.new.p c.begin-2.ensures.begun c.requires.third.first_is
