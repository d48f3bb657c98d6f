use Rattle.std.proofs.Common.{subst, sym}
use Rattle.live_run.proofs.PhaseTurns.{begun_kept, is_begun, may_begin, same_table, share_is_same, tree_lock_there}
use Rattle.live_run.proofs.phases.begin.Goals as goal
use Rattle.live_law.specs.DoneOps.{AreEnded}
use Rattle.live_run.specs.Names.{PassesValue, seen_by}
use Rattle.live_run.specs.Phases.{IsOfPhase}

pub begin-requires-clause-table : goal.begin-requires-clause-table
begin-requires-clause-table g c =
    same_table g.N.RunNames.script g.T.NamedTable.table c.p.inside.side.seen c.p.inside.next c.p.inside.looks c.p.inside.shown c.p.inside.side.share c.args.turn.now c.p.inside.side.cached c.p.invariant c.requires.may.share.table_is

pub begin-requires-clause-lock : goal.begin-requires-clause-lock
begin-requires-clause-lock g c =
    tree_lock_there g.N.RunNames.script g.T.NamedTable.table c.p.inside.side.seen c.p.inside.next c.p.inside.looks c.p.inside.shown c.p.inside.side.share c.args.turn.now c.p.inside.side.cached c.p.invariant

pub begin-requires-clause-may : goal.begin-requires-clause-may
begin-requires-clause-may g c =
    let script = g.N.RunNames.script in
    let table = g.T.NamedTable.table in
    may_begin script table c.p.inside.side.seen c.p.inside.next c.p.inside.looks c.p.inside.shown c.p.inside.side.share c.args.turn.now c.p.inside.side.cached c.p.invariant
    (subst (λ (p : PassesValue). IsOfPhase script table p c.args.turn.now) (sym c.p.view_is) c.requires.may)

pub invariant_of-p : goal.invariant_of-p
invariant_of-p g c =
    begun_kept g.N.RunNames.script g.T.NamedTable.table c.p.inside.side.seen c.p.inside.next c.p.inside.looks c.p.inside.shown c.p.inside.side.share c.args.turn.now c.p.inside.side.cached c.p.invariant c.begin.new.worker c.begin.ensures.table.1 c.begin.ensures.worker
    (subst (λ (p : PassesValue). AreEnded g.N.RunNames.script (seen_by p.seen) p.seen.thread) (sym c.p.view_is) c.requires.may.earlier)

pub returns-clause-turn : goal.returns-clause-turn
returns-clause-turn g c = share_is_same c.begin.new.phase c.args.turn.now c.begin.ensures.table.0 c.begin.ensures.phase

pub returns-clause-begun : goal.returns-clause-begun
returns-clause-begun g c =
    let begun = is_begun g.N.RunNames.script g.T.NamedTable.table c.p.inside.side.seen c.p.inside.next c.p.inside.looks c.p.inside.shown c.p.inside.side.share c.args.turn.now c.p.inside.side.cached c.p.invariant c.begin.new.worker c.begin.ensures.table.1 c.begin.ensures.worker in
    λ j. record { seen = (c.p.view_is j).seen; next = (c.p.view_is j).next; shown = (c.p.view_is j).shown; begun = begun j }
