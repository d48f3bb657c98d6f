use Rattle.std.proofs.Common.{◌≡◌, ℕ, ◌+◌, drop, true, Some, ap, sym, ◌∙◌, subst, arith}
use Rattle.live_law.proofs.laws.Passes.{IsReady-begin, PassesKeep-end}
use Rattle.live_law.specs.DoneOps.{AreEnded}
use Rattle.live_law.specs.SeenJournals.{HasGrown}
use Rattle.live_law.specs.Passes.{PassesKeep}
use Rattle.live_law.specs.Stages.{IsReady}
use Rattle.live_run.proofs.Openings.{IsListFor, list_for, next_few, replied_in_phase, resting_after, resting_before, resting_begun, some_list, still_ended}
use Rattle.live_run.proofs.live.Live.carry_out.Goals as goal
use Rattle.live_run.proofs.live.Live.carry_out.Goals.{After-take-looks}
use Rattle.live_run.proofs.live.Live.carry_out.Given.{Over}
use Rattle.live_run.specs.Commands.{HasReplied}
use Rattle.live_run.specs.Names.{PassesValue, seen_by}
use Rattle.live_run.specs.Sharing.{begun_in}
use Rattle.run_law.specs.LookLists.{AreReady, rooms_of}
use Rattle.script_ops.specs.Values.{op_at, ops_of}

-- the next op of what lies inside
op_is : (g : Over) (c : After-take-looks g) → op_at g.N.RunNames.script c.p.inside.side.seen.thread c.p.inside.next ≡ Some c.args.op.now
op_is g c = subst (λ (p : PassesValue). op_at g.N.RunNames.script p.seen.thread p.next ≡ Some c.args.op.now) (sym c.p.view_is) c.requires.op

pub take-looks-requires : goal.take-looks-requires
take-looks-requires g c =
    let is : op_at g.N.RunNames.script c.p.inside.side.seen.thread c.p.inside.next ≡ Some c.args.op.now = subst (λ (p : PassesValue). op_at g.N.RunNames.script p.seen.thread p.next ≡ Some c.args.op.now) (sym c.p.view_is) c.requires.op in
    some_list g.N.RunNames.script c.p.inside.side.seen.thread c.p.inside.next c.args.op.now c.p.inside.looks is c.requires.command c.p.invariant.lists_are

-- the list that was taken
list_is : (g : Over) (c : After-take-looks g) → IsListFor g.N.RunNames.script c.p.inside.side.seen.thread c.p.inside.next c.args.op.now c.take-looks.new.self c.take-looks.result
list_is g c = list_for g.N.RunNames.script c.p.inside.side.seen.thread c.p.inside.next c.args.op.now c.p.inside.looks (op_is g c) c.requires.command c.p.invariant.lists_are c.take-looks.new.self c.take-looks.result c.take-looks.ensures

pub command-reply-requires-clause-looks : goal.command-reply-requires-clause-looks
command-reply-requires-clause-looks g c = (list_is g (goal.at.command-reply-requires-clause-looks g c).After-take-looks).empty

pub command-reply-requires-clause-list : goal.command-reply-requires-clause-list
command-reply-requires-clause-list g c = (list_is g (goal.at.command-reply-requires-clause-list g c).After-take-looks).room

pub command-reply-requires-clause-ready : goal.command-reply-requires-clause-ready
command-reply-requires-clause-ready g c =
    let script = g.N.RunNames.script in
    let ended : AreEnded script (seen_by c.p.inside.side.seen) c.p.inside.side.seen.thread = c.p.invariant.ended (ap (λ (p : PassesValue). p.begun) c.p.view_is ∙ c.requires.begun) in
    IsReady-begin script c.p.inside.side.seen.thread c.p.inside.next (seen_by c.p.inside.side.seen) ended c.p.invariant.keep

pub command-reply-requires-clause-worker : goal.command-reply-requires-clause-worker
command-reply-requires-clause-worker g c =
    resting_before g.N.RunNames.script g.T.NamedTable.table c.p.inside.side.seen c.p.inside.next c.p.inside.looks c.p.inside.shown c.p.inside.side.share c.p.inside.side.cached c.p.invariant (ap (λ (p : PassesValue). p.begun) c.p.view_is ∙ c.requires.begun)

pub overflow_add-p : goal.overflow_add-p
overflow_add-p g c = omega (arith, next_few g.N.RunNames.script c.p.inside.side.seen.thread c.p.inside.next c.args.op.now c.self.invariant.lawful (op_is g (goal.at.overflow_add-p g c).After-take-looks))

pub invariant_of-p : goal.invariant_of-p
invariant_of-p g c =
    let script = g.N.RunNames.script in
    let t : ℕ = c.p.inside.side.seen.thread in
    let n : ℕ = c.p.inside.next in
    let ready : IsReady script t (n + 1) (seen_by c.command-reply.new.side.seen) = c.command-reply.ensures.ready in
    record {
      keep = subst (λ u. PassesKeep script u (n + 1) (seen_by c.command-reply.new.side.seen)) (sym c.command-reply.ensures.thread) (PassesKeep-end script ready.start t n (seen_by c.command-reply.new.side.seen) ready.ended ready.keeps);
      lists_are = subst (λ u. AreReady (rooms_of script.machine (drop (n + 1) (ops_of script u))) c.take-looks.new.self) (sym c.command-reply.ensures.thread) (list_is g (goal.at.invariant_of-p g c).After-take-looks).rest;
      room = omega (arith, c.p.invariant.room, c.command-reply.ensures.room);
      share_is = resting_after g.T.NamedTable.table t c.command-reply.new.side.seen.thread (n + 1) c.command-reply.new.side.share c.command-reply.ensures.thread c.command-reply.ensures.worker;
      ended = λ begun. still_ended script (seen_by c.p.inside.side.seen) (seen_by c.command-reply.new.side.seen) t c.command-reply.new.side.seen.thread c.command-reply.ensures.seen c.command-reply.ensures.thread (c.p.invariant.ended (ap (λ (p : PassesValue). p.begun) c.p.view_is ∙ c.requires.begun));
      cached_is = tt;
      noted = tt;
    }

pub returns-clause-seen : goal.returns-clause-seen
returns-clause-seen g c = subst (λ (p : PassesValue). HasGrown (seen_by p.seen) (seen_by c.command-reply.new.side.seen)) c.p.view_is c.command-reply.ensures.seen

pub returns-clause-begun : goal.returns-clause-begun
returns-clause-begun g c = resting_begun g.T.NamedTable.table c.p.inside.side.seen.thread (c.p.inside.next + 1) true c.command-reply.new.side.share c.command-reply.ensures.worker

pub returns-clause-reply : goal.returns-clause-reply
returns-clause-reply g c =
    let old : PassesValue = record { seen = c.p.inside.side.seen; next = c.p.inside.next; shown = c.p.inside.shown.bytes; begun = true } in
    let new : PassesValue = record { seen = c.command-reply.new.side.seen; next = c.p.inside.next + 1; shown = c.command-reply.new.shown.bytes; begun = true } in
    let now : PassesValue = record { seen = c.command-reply.new.side.seen; next = c.p.inside.next + 1; shown = c.command-reply.new.shown.bytes; begun = begun_in c.command-reply.new.side.share.parts } in
    subst (λ (p : PassesValue). HasReplied g.N.RunNames.script c.args.asked c.args.op.now c.command-reply.result p now) c.p.view_is
    (replied_in_phase g.N.RunNames.script c.args.asked c.args.op.now c.command-reply.result old new (begun_in c.p.inside.side.share.parts) (begun_in c.command-reply.new.side.share.parts) c.command-reply.ensures.reply)
