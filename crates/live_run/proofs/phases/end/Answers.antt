use Rattle.std.proofs.Common.{◌≡◌, ◌∙◌, ap, subst, sym}
use Rattle.live_run.proofs.PhaseTurns.{HaveEnded-one, may_end, same_kept, same_table, tree_lock_there}
use Rattle.live_run.proofs.phases.end.Goals as goal
use Rattle.live_run.specs.Names.{PassesValue}
use Rattle.live_run.specs.Phases.{IsEndedIn}
use Rattle.live_run.specs.Sharing.{begun_in}

pub end-requires-clause-table : goal.end-requires-clause-table
end-requires-clause-table g c =
    same_table g.N.RunNames.script g.T.NamedTable.table c.p.inside.side.seen c.p.inside.next c.p.inside.looks c.p.inside.shown c.p.inside.side.share c.args.turn.now c.p.inside.side.cached c.p.invariant c.requires.may.share.table_is

pub end-requires-clause-lock : goal.end-requires-clause-lock
end-requires-clause-lock g c =
    tree_lock_there g.N.RunNames.script g.T.NamedTable.table c.p.inside.side.seen c.p.inside.next c.p.inside.looks c.p.inside.shown c.p.inside.side.share c.args.turn.now c.p.inside.side.cached c.p.invariant

pub end-requires-clause-may : goal.end-requires-clause-may
end-requires-clause-may g c =
    let script = g.N.RunNames.script in
    let table = g.T.NamedTable.table in
    may_end script table c.p.inside.side.seen c.p.inside.next c.p.inside.looks c.p.inside.shown c.p.inside.side.share c.args.turn.now c.p.inside.side.cached c.p.invariant
    (subst (λ (p : PassesValue). IsEndedIn script table p c.args.turn.now) (sym c.p.view_is) c.requires.may)

pub invariant_of-p : goal.invariant_of-p
invariant_of-p g c =
    same_kept g.N.RunNames.script g.T.NamedTable.table c.p.inside.side.seen c.p.inside.next c.p.inside.looks c.p.inside.shown c.p.inside.side.share c.args.turn.now c.p.inside.side.cached c.p.invariant c.end.new.worker c.end.ensures.table.1 c.end.ensures.worker

pub returns-clause-turn : goal.returns-clause-turn
returns-clause-turn g c = HaveEnded-one c.args.turn.now c.end.new.phase c.end.ensures.table.0 c.end.ensures.phase

pub returns-clause-same : goal.returns-clause-same
returns-clause-same g c =
    let same : begun_in c.end.new.worker.parts ≡ begun_in c.p.inside.side.share.parts = ap begun_in c.end.ensures.worker in
    ap (λ b. record { seen = c.p.inside.side.seen; next = c.p.inside.next; shown = c.p.inside.shown.bytes; begun = b }) same ∙ c.p.view_is
