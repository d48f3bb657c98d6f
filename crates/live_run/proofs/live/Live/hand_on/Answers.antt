use Rattle.std.proofs.Common.{sym, subst}
use Rattle.live_run.proofs.Endings.{HasEnded-met}
use Rattle.live_run.proofs.Openings.{passes_handed}
use Rattle.live_run.proofs.live.Live.hand_on.Goals as goal
use Rattle.live_law.specs.DoneOps.{HasEnded}
use Rattle.live_run.specs.Names.{PassesValue, seen_by}
use Rattle.live_run.specs.Phases.{IsAtEnd}

pub invariant_of-earlier : goal.invariant_of-earlier
invariant_of-earlier g c = passes_handed g.N.RunNames.script g.T.NamedTable.table c.earlier.inside.side.seen c.hand.new.a c.earlier.inside.next c.earlier.inside.looks c.earlier.inside.shown c.earlier.inside.side.share c.earlier.inside.side.cached c.hand.ensures.a c.earlier.invariant

pub invariant_of-later : goal.invariant_of-later
invariant_of-later g c = passes_handed g.N.RunNames.script g.T.NamedTable.table c.later.inside.side.seen c.hand.new.b c.later.inside.next c.later.inside.looks c.later.inside.shown c.later.inside.side.share c.later.inside.side.cached c.hand.ensures.b c.later.invariant

pub returns-clause-ended : goal.returns-clause-ended
returns-clause-ended g c =
    let script = g.N.RunNames.script in
    subst (λ (p : PassesValue). IsAtEnd script p → HasEnded script (seen_by c.hand.new.b) p.seen.thread) c.earlier.view_is
    (HasEnded-met script c.earlier.inside.side.seen c.hand.new.a c.hand.new.b c.earlier.inside.next c.earlier.invariant.keep c.hand.ensures.a c.hand.ensures.same)

pub returns-clause-later_ended : goal.returns-clause-later_ended
returns-clause-later_ended g c =
    let script = g.N.RunNames.script in
    subst (λ (p : PassesValue). IsAtEnd script p → HasEnded script (seen_by c.hand.new.a) p.seen.thread) c.later.view_is
    (HasEnded-met script c.later.inside.side.seen c.hand.new.b c.hand.new.a c.later.inside.next c.later.invariant.keep c.hand.ensures.b (sym c.hand.ensures.same))
