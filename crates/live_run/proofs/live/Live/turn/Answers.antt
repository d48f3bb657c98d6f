use Rattle.std.proofs.Common.{◌≡◌, ◌∙◌, None, Some, ap, arith, subst, sym}
use Rattle.live_run.proofs.Growth.{HasGrown-touched}
use Rattle.live_run.proofs.CachedTags.{HoldsCached-grown, IsNoted-same}
use Rattle.live_run.proofs.TurnSteps.{given_stays, stale_turn, tagged_turn, touched_turn}
use Rattle.live_run.proofs.Turns.{access_fits, tag_domain, turn_can, turn_none, turn_some}
use Rattle.live_run.proofs.live.Live.turn.Goals as goal
use Rattle.live_run.proofs.live.Live.turn.Goals.{After-line_slice-slice}
use Rattle.live_run.proofs.live.Live.turn.Given.{Over}
use Rattle.live_run.specs.CachedTags.{HoldsCached, IsNoted}
use Rattle.live_run.specs.Sharing.{IsTagged}
use Rattle.machine.proofs.laws.Domains.{domain_of-lt}
use Rattle.machine.specs.Maps.{line_of}
use Rattle.machine.specs.Slices.{slice_of_line}
use Rattle.machine.specs.declared.parameters.Parameters.{Parameters}

pub learn-tag-requires-clause-task : goal.learn-tag-requires-clause-task
learn-tag-requires-clause-task g c = (access_fits g.N.RunNames.script c.args.side.now.seen.thread c.args.access.number c.args.access.task c.args.access.cpu c.args.access.addr c.self.invariant.lawful c.requires.op).0

pub learn-tag-requires-clause-cpu : goal.learn-tag-requires-clause-cpu
learn-tag-requires-clause-cpu g c = (access_fits g.N.RunNames.script c.args.side.now.seen.thread c.args.access.number c.args.access.task c.args.access.cpu c.args.access.addr c.self.invariant.lawful c.requires.op).1

pub line_slice-slice-requires : goal.line_slice-slice-requires
line_slice-slice-requires g c =
    let fits = access_fits g.N.RunNames.script c.args.side.now.seen.thread c.args.access.number c.args.access.task c.args.access.cpu c.args.access.addr c.self.invariant.lawful c.requires.op in
    let domain = tag_domain g.N.RunNames.script c.learn-tag.new.side.seen c.args.access.task c.args.access.cpu c.learn-tag.result c.learn-tag.ensures.tag in
    let there = domain_of-lt g.N.RunNames.script.machine c.args.access.cpu c.self.invariant.lawful.in_range fits.1 in
    omega (arith, domain, there, ap (λ (m : Parameters). m.domains) c.self.invariant.machine)

pub touch-requires-clause-may : goal.touch-requires-clause-may
touch-requires-clause-may g c =
    let number : c.line_slice-slice.result ≡ slice_of_line g.N.RunNames.script.machine c.learn-tag.result.domain (line_of c.args.access.addr) = c.line_slice-slice.ensures.number ∙ ap (λ (m : Parameters). slice_of_line m c.learn-tag.result.domain (line_of c.args.access.addr)) c.self.invariant.machine in
    turn_can g.N.RunNames.script c.args.access.number c.args.access.task c.args.access.cpu c.args.access.addr c.line_slice-slice.result c.learn-tag.result c.args.side.now.seen c.learn-tag.new.side.seen c.self.invariant.lawful c.requires.op c.learn-tag.ensures.taken c.learn-tag.ensures.tag
    c.learn-tag.ensures.known c.learn-tag.ensures.valid number c.requires.room

pub returns-in-Some-clause-turned : goal.returns-in-Some-clause-turned
returns-in-Some-clause-turned g c =
    let number : c.line_slice-slice.result ≡ slice_of_line g.N.RunNames.script.machine c.learn-tag.result.domain (line_of c.args.access.addr) = c.line_slice-slice.ensures.number ∙ ap (λ (m : Parameters). slice_of_line m c.learn-tag.result.domain (line_of c.args.access.addr)) c.self.invariant.machine in
    turn_some g.N.RunNames.script c.args.access.number c.args.access.task c.args.access.cpu c.args.access.addr c.line_slice-slice.result c.learn-tag.result c.in-Some.reached c.args.side.now.seen c.learn-tag.new.side.seen c.touch.new.side.seen c.learn-tag.ensures.taken c.learn-tag.ensures.tag c.learn-tag.ensures.fresh number c.in-Some.ensures.touched

pub returns-in-None-clause-turned : goal.returns-in-None-clause-turned
returns-in-None-clause-turned g c =
    turn_none g.N.RunNames.script c.args.access.number c.args.access.task c.args.access.cpu c.args.access.addr c.line_slice-slice.result (line_of c.args.access.addr) c.learn-tag.result c.args.side.now.seen c.learn-tag.new.side.seen c.touch.new.side.seen c.learn-tag.ensures.taken c.learn-tag.ensures.fresh c.learn-tag.ensures.most c.in-None.ensures.touched

-- the thread has its tag
pub learn-tag-requires-clause-worker : goal.learn-tag-requires-clause-worker
learn-tag-requires-clause-worker g c = record { n = c.args.access.number; addr = c.args.access.addr; resting = c.requires.worker; is = c.requires.op }

is_tagged : (g : Over) (c : After-line_slice-slice g) → IsTagged g.N.RunNames.script g.T.NamedTable.table c.line_slice-slice.result c.args.access.number c.learn-tag.result (line_of c.args.access.addr) c.learn-tag.new.side.seen c.learn-tag.new.side.share
is_tagged g c =
    let number : c.line_slice-slice.result ≡ slice_of_line g.N.RunNames.script.machine c.learn-tag.result.domain (line_of c.args.access.addr) = c.line_slice-slice.ensures.number ∙ ap (λ (m : Parameters). slice_of_line m c.learn-tag.result.domain (line_of c.args.access.addr)) c.self.invariant.machine in
    tagged_turn g.N.RunNames.script g.T.NamedTable.table c.line_slice-slice.result c.args.access.number c.args.access.task c.args.access.cpu c.args.access.addr c.learn-tag.result c.args.side.now.seen c.learn-tag.new.side.seen c.args.side.now.share c.learn-tag.new.side.share c.requires.worker c.requires.op c.learn-tag.ensures.taken c.learn-tag.ensures.worker number

pub touch-requires-clause-tagged : goal.touch-requires-clause-tagged
touch-requires-clause-tagged g c = is_tagged g (goal.at.touch-requires-clause-tagged g c).After-line_slice-slice

-- it has touched, or is to tag again
pub returns-in-Some-clause-worker : goal.returns-in-Some-clause-worker
returns-in-Some-clause-worker g c =
    touched_turn g.N.RunNames.script g.T.NamedTable.table c.line_slice-slice.result c.args.access.number (line_of c.args.access.addr) c.learn-tag.result c.in-Some.reached c.args.side.now.seen c.learn-tag.new.side.seen c.learn-tag.new.side.share c.touch.new.side.share
    (is_tagged g (goal.at.returns-in-Some-clause-worker g c).After-line_slice-slice) c.learn-tag.ensures.taken c.in-Some.ensures.worker

pub returns-in-None-clause-worker : goal.returns-in-None-clause-worker
returns-in-None-clause-worker g c =
    stale_turn g.N.RunNames.script g.T.NamedTable.table c.line_slice-slice.result c.args.access.number (line_of c.args.access.addr) c.learn-tag.result c.args.side.now.seen c.learn-tag.new.side.seen c.learn-tag.new.side.share c.touch.new.side.share
    (is_tagged g (goal.at.returns-in-None-clause-worker g c).After-line_slice-slice) c.learn-tag.ensures.taken c.in-None.ensures.worker

-- what it knows of its tag, it knows after it
pub returns-in-Some-clause-cached_now : goal.returns-in-Some-clause-cached_now
returns-in-Some-clause-cached_now g c =
    subst (HoldsCached g.N.RunNames.script c.touch.new.side.seen) (sym c.in-Some.ensures.cached)
    (HoldsCached-grown g.N.RunNames.script c.learn-tag.new.side.seen c.touch.new.side.seen c.learn-tag.new.side.cached (HasGrown-touched c.line_slice-slice.result c.args.access.number c.learn-tag.result (line_of c.args.access.addr) c.learn-tag.new.side.seen c.touch.new.side.seen (Some c.in-Some.reached) c.in-Some.ensures.touched) c.learn-tag.ensures.cached_now)

pub returns-in-None-clause-cached_now : goal.returns-in-None-clause-cached_now
returns-in-None-clause-cached_now g c =
    subst (HoldsCached g.N.RunNames.script c.touch.new.side.seen) (sym c.in-None.ensures.cached)
    (HoldsCached-grown g.N.RunNames.script c.learn-tag.new.side.seen c.touch.new.side.seen c.learn-tag.new.side.cached (HasGrown-touched c.line_slice-slice.result c.args.access.number c.learn-tag.result (line_of c.args.access.addr) c.learn-tag.new.side.seen c.touch.new.side.seen None c.in-None.ensures.touched) c.learn-tag.ensures.cached_now)

pub returns-in-Some-clause-noted_now : goal.returns-in-Some-clause-noted_now
returns-in-Some-clause-noted_now g c =
    subst (IsNoted c.touch.new.side.share) (sym c.in-Some.ensures.cached)
    (IsNoted-same c.learn-tag.new.side.share c.touch.new.side.share c.learn-tag.new.side.cached
    (given_stays g.N.RunNames.script g.T.NamedTable.table c.line_slice-slice.result c.args.access.number (line_of c.args.access.addr) c.learn-tag.result (Some c.in-Some.reached) c.learn-tag.new.side.seen c.learn-tag.new.side.share c.touch.new.side.share
    (is_tagged g (goal.at.returns-in-Some-clause-noted_now g c).After-line_slice-slice) c.in-Some.ensures.worker) c.learn-tag.ensures.noted_now)

pub returns-in-None-clause-noted_now : goal.returns-in-None-clause-noted_now
returns-in-None-clause-noted_now g c =
    subst (IsNoted c.touch.new.side.share) (sym c.in-None.ensures.cached)
    (IsNoted-same c.learn-tag.new.side.share c.touch.new.side.share c.learn-tag.new.side.cached
    (given_stays g.N.RunNames.script g.T.NamedTable.table c.line_slice-slice.result c.args.access.number (line_of c.args.access.addr) c.learn-tag.result None c.learn-tag.new.side.seen c.learn-tag.new.side.share c.touch.new.side.share
    (is_tagged g (goal.at.returns-in-None-clause-noted_now g c).After-line_slice-slice) c.in-None.ensures.worker) c.learn-tag.ensures.noted_now)
