use Rattle.std.proofs.Common.{◌≡◌, ◌+◌, List, [], ◌∷◌, ap, arith, length, subst, sym}
use Rattle.live_run.proofs.PhaseEnds.{AreBefore-next, HasGrown-phase, all_are, all_ended, ended_in, may_work, of_phase, worked_own}
use Rattle.live_run.proofs.PhaseParts.{AreParts, AreParts-split}
use Rattle.live_run.proofs.PhaseTurns.{is_next, may_pass}
use Rattle.live_run.proofs.laws.Phases.{first_thread-next}
use Rattle.live_run.proofs.live.Live.phase.Goals as goal
use Rattle.live_run.specs.Names.{PassesValue}
use Rattle.live_run.specs.Phases.{HaveHandedOn}
use Rattle.live_run.specs.Sharing.{IsAtPhase, IsShareOf}
use Rattle.schedule_law.specs.LiveParts.{live_phase}
use Rattle.script_ops.specs.Values.{ScriptValue, first_thread, phase_at}

-- of a phase without threads
pub pass-requires-clause-may : goal.pass-requires-clause-may
pass-requires-clause-may g c =
    let script = g.N.RunNames.script in
    let none : length (phase_at script c.args.phase).threads ≡ 0 = omega (arith, c.thread_count-count.ensures.count, c.if-count-eq0.true, ap (λ (s : ScriptValue). length (phase_at s c.args.phase).threads) c.requires.script) in
    let all : first_thread script c.args.phase ≡ first_thread script (c.args.phase + 1) = omega (arith, first_thread-next script c.args.phase c.requires.phase, none) in
    may_pass script g.T.NamedTable.table c.args.phase (first_thread script c.args.phase) c.args.turn.now c.requires.phase c.requires.turn all

pub begin_all-requires : goal.begin_all-requires
begin_all-requires g c =
    let script = g.N.RunNames.script in
    let (front, rest) = c.split_at_mut-from.result in
    let (own, later) = c.split_at_mut-own.result in
    let parts : AreParts script c.args.phase c.args.p.now front.now own.now later.now =
    AreParts-split script c.args.script.now c.args.phase c.first_thread-first.result c.thread_count-count.result c.args.p.now front.now rest.now own.now later.now c.requires.script c.requires.phase c.split_at_mut-from.ensures.value
    c.split_at_mut-own.ensures.value c.split_at_mut-from.ensures.front_len c.first_thread-first.ensures.first c.split_at_mut-own.ensures.front_len c.thread_count-count.ensures.count in
    record { threads = of_phase script c.args.phase c.args.p.now front.now own.now later.now parts c.requires.before g.T.NamedTable.table c.args.turn.now c.requires.turn }

pub work_all-requires-clause-may : goal.work_all-requires-clause-may
work_all-requires-clause-may g c κs within =
    let script = g.N.RunNames.script in
    let (front, rest) = c.split_at_mut-from.result in
    let (own, later) = c.split_at_mut-own.result in
    let parts : AreParts script c.args.phase c.args.p.now front.now own.now later.now =
    AreParts-split script c.args.script.now c.args.phase c.first_thread-first.result c.thread_count-count.result c.args.p.now front.now rest.now own.now later.now c.requires.script c.requires.phase c.split_at_mut-from.ensures.value
    c.split_at_mut-own.ensures.value c.split_at_mut-from.ensures.front_len c.first_thread-first.ensures.first c.split_at_mut-own.ensures.front_len c.thread_count-count.ensures.count in
    may_work script c.args.phase c.args.p.now front.now own.now later.now parts c.requires.before c.begin_all.new.own c.begin_all.ensures.begun

pub end_all-requires : goal.end_all-requires
end_all-requires g c =
    let script = g.N.RunNames.script in
    let (front, rest) = c.split_at_mut-from.result in
    let (own, later) = c.split_at_mut-own.result in
    let parts : AreParts script c.args.phase c.args.p.now front.now own.now later.now =
    AreParts-split script c.args.script.now c.args.phase c.first_thread-first.result c.thread_count-count.result c.args.p.now front.now rest.now own.now later.now c.requires.script c.requires.phase c.split_at_mut-from.ensures.value
    c.split_at_mut-own.ensures.value c.split_at_mut-from.ensures.front_len c.first_thread-first.ensures.first c.split_at_mut-own.ensures.front_len c.thread_count-count.ensures.count in
    let at : IsAtPhase script g.T.NamedTable.table c.args.phase c.begin_all.new.turn = subst (IsAtPhase script g.T.NamedTable.table c.args.phase) (sym c.begin_all.ensures.turn) c.requires.turn in
    record { threads = ended_in script c.args.phase c.args.p.now front.now own.now later.now parts c.requires.before c.begin_all.new.own c.work_all.new.own c.begin_all.ensures.begun c.work_all.ensures g.T.NamedTable.table c.begin_all.new.turn at }

pub pass-requires-2-clause-may : goal.pass-requires-2-clause-may
pass-requires-2-clause-may g c =
    let script = g.N.RunNames.script in
    let (front, rest) = c.split_at_mut-from.result in
    let (own, later) = c.split_at_mut-own.result in
    let parts : AreParts script c.args.phase c.args.p.now front.now own.now later.now =
    AreParts-split script c.args.script.now c.args.phase c.first_thread-first.result c.thread_count-count.result c.args.p.now front.now rest.now own.now later.now c.requires.script c.requires.phase c.split_at_mut-from.ensures.value
    c.split_at_mut-own.ensures.value c.split_at_mut-from.ensures.front_len c.first_thread-first.ensures.first c.split_at_mut-own.ensures.front_len c.thread_count-count.ensures.count in
    let at : IsAtPhase script g.T.NamedTable.table c.args.phase c.begin_all.new.turn = subst (IsAtPhase script g.T.NamedTable.table c.args.phase) (sym c.begin_all.ensures.turn) c.requires.turn in
    let ended : IsShareOf g.T.NamedTable.table (live_phase c.args.phase (first_thread script c.args.phase + length c.work_all.new.own) ∷ []) c.end_all.new.turn = all_ended script c.args.phase c.args.p.now front.now own.now later.now parts c.requires.before c.begin_all.new.own c.work_all.new.own c.begin_all.ensures.begun c.work_all.ensures g.T.NamedTable.table c.begin_all.new.turn c.end_all.new.turn at c.end_all.ensures.turn in
    let all = all_are script c.args.phase c.args.p.now front.now own.now later.now parts c.requires.before c.begin_all.new.own c.work_all.new.own c.begin_all.ensures.begun c.work_all.ensures in
    may_pass script g.T.NamedTable.table c.args.phase (first_thread script c.args.phase + length c.work_all.new.own) c.end_all.new.turn c.requires.phase ended all

pub returns-clause-before : goal.returns-clause-before
returns-clause-before g c =
    let script = g.N.RunNames.script in
    let (front, rest) = c.split_at_mut-from.result in
    let (own, later) = c.split_at_mut-own.result in
    let parts : AreParts script c.args.phase c.args.p.now front.now own.now later.now =
    AreParts-split script c.args.script.now c.args.phase c.first_thread-first.result c.thread_count-count.result c.args.p.now front.now rest.now own.now later.now c.requires.script c.requires.phase c.split_at_mut-from.ensures.value
    c.split_at_mut-own.ensures.value c.split_at_mut-from.ensures.front_len c.first_thread-first.ensures.first c.split_at_mut-own.ensures.front_len c.thread_count-count.ensures.count in
    let handed : HaveHandedOn script c.work_all.new.own c.hand_all.new.own later.now c.hand_all.new.later = subst (λ (xs : List PassesValue). HaveHandedOn script xs c.hand_all.new.own later.now c.hand_all.new.later) c.end_all.ensures.same c.hand_all.ensures in
    AreBefore-next script c.args.phase c.args.p.now front.now own.now later.now parts c.requires.before c.work_all.new.own c.hand_all.new.own c.hand_all.new.later (worked_own script c.args.phase c.args.p.now front.now own.now later.now parts c.requires.before c.begin_all.new.own c.work_all.new.own c.begin_all.ensures.begun c.work_all.ensures) handed

pub returns-clause-turn : goal.returns-clause-turn
returns-clause-turn g c =
    let script = g.N.RunNames.script in
    let (front, rest) = c.split_at_mut-from.result in
    let (own, later) = c.split_at_mut-own.result in
    let parts : AreParts script c.args.phase c.args.p.now front.now own.now later.now =
    AreParts-split script c.args.script.now c.args.phase c.first_thread-first.result c.thread_count-count.result c.args.p.now front.now rest.now own.now later.now c.requires.script c.requires.phase c.split_at_mut-from.ensures.value
    c.split_at_mut-own.ensures.value c.split_at_mut-from.ensures.front_len c.first_thread-first.ensures.first c.split_at_mut-own.ensures.front_len c.thread_count-count.ensures.count in
    let at : IsAtPhase script g.T.NamedTable.table c.args.phase c.begin_all.new.turn = subst (IsAtPhase script g.T.NamedTable.table c.args.phase) (sym c.begin_all.ensures.turn) c.requires.turn in
    let ended : IsShareOf g.T.NamedTable.table (live_phase c.args.phase (first_thread script c.args.phase + length c.work_all.new.own) ∷ []) c.end_all.new.turn = all_ended script c.args.phase c.args.p.now front.now own.now later.now parts c.requires.before c.begin_all.new.own c.work_all.new.own c.begin_all.ensures.begun c.work_all.ensures g.T.NamedTable.table c.begin_all.new.turn c.end_all.new.turn at c.end_all.ensures.turn in
    let all = all_are script c.args.phase c.args.p.now front.now own.now later.now parts c.requires.before c.begin_all.new.own c.work_all.new.own c.begin_all.ensures.begun c.work_all.ensures in
    is_next script g.T.NamedTable.table c.args.phase (first_thread script c.args.phase + length c.work_all.new.own) c.end_all.new.turn c.requires.phase ended all c.pass-2.new.phase c.pass-2.ensures.table c.pass-2.ensures.phase

pub returns-clause-seen : goal.returns-clause-seen
returns-clause-seen g c =
    let script = g.N.RunNames.script in
    let (front, rest) = c.split_at_mut-from.result in
    let (own, later) = c.split_at_mut-own.result in
    let parts : AreParts script c.args.phase c.args.p.now front.now own.now later.now =
    AreParts-split script c.args.script.now c.args.phase c.first_thread-first.result c.thread_count-count.result c.args.p.now front.now rest.now own.now later.now c.requires.script c.requires.phase c.split_at_mut-from.ensures.value
    c.split_at_mut-own.ensures.value c.split_at_mut-from.ensures.front_len c.first_thread-first.ensures.first c.split_at_mut-own.ensures.front_len c.thread_count-count.ensures.count in
    let handed : HaveHandedOn script c.work_all.new.own c.hand_all.new.own later.now c.hand_all.new.later = subst (λ (xs : List PassesValue). HaveHandedOn script xs c.hand_all.new.own later.now c.hand_all.new.later) c.end_all.ensures.same c.hand_all.ensures in
    HasGrown-phase script c.args.phase c.args.p.now front.now own.now later.now parts c.requires.before c.work_all.new.own c.hand_all.new.own c.hand_all.new.later (worked_own script c.args.phase c.args.p.now front.now own.now later.now parts c.requires.before c.begin_all.new.own c.work_all.new.own c.begin_all.ensures.begun c.work_all.ensures) handed
