use Rattle.std.proofs.Common.{◌≡◌, ℕ, ◌+◌, true, Some, drop, ap, ◌∙◌, sym, subst, arith}
use Rattle.live_law.proofs.laws.OwnRoom.{access-room}
use Rattle.live_law.specs.DoneOps.{AreEnded}
use Rattle.live_law.specs.SeenJournals.{HasGrown}
use Rattle.live_run.proofs.Growth.{HasGrown-accessed}
use Rattle.live_run.proofs.Openings.{lists_after_access, next_few, resting_after, resting_before, resting_begun, still_ended}
use Rattle.live_run.proofs.Turns.{passes_access}
use Rattle.live_run.proofs.live.Live.access.Goals as goal
use Rattle.live_run.specs.Names.{PassesValue, seen_by}
use Rattle.run_law.specs.LookLists.{AreReady, rooms_of}
use Rattle.script_ops.specs.Values.{op_at, ops_of}
use Rattle.script_ops.specs.declared.op.Op.TheVariants.{Access}

pub reach-reached-requires-clause-room : goal.reach-reached-requires-clause-room
reach-reached-requires-clause-room g c =
    let script = g.N.RunNames.script in
    let is : op_at script c.p.inside.side.seen.thread c.p.inside.next ≡ Some (Access c.in-Access.task c.in-Access.cpu c.in-Access.addr) =
    subst (λ (p : PassesValue). op_at script p.seen.thread p.next ≡ Some c.args.op.now) (sym c.p.view_is) c.requires.op ∙ ap (λ o. Some o) c.in-Access.is in
    access-room script c.p.inside.side.seen.thread c.p.inside.next c.in-Access.task c.in-Access.cpu c.in-Access.addr (seen_by c.p.inside.side.seen) c.self.invariant.lawful is c.p.invariant.keep

pub reach-reached-requires-clause-cached : goal.reach-reached-requires-clause-cached
reach-reached-requires-clause-cached g c = c.p.invariant.cached_is

pub reach-reached-requires-clause-noted : goal.reach-reached-requires-clause-noted
reach-reached-requires-clause-noted g c = c.p.invariant.noted

pub reach-reached-requires-clause-worker : goal.reach-reached-requires-clause-worker
reach-reached-requires-clause-worker g c =
    resting_before g.N.RunNames.script g.T.NamedTable.table c.p.inside.side.seen c.p.inside.next c.p.inside.looks c.p.inside.shown c.p.inside.side.share c.p.inside.side.cached c.p.invariant (ap (λ (p : PassesValue). p.begun) c.p.view_is ∙ c.requires.begun)

pub overflow_add-p : goal.overflow_add-p
overflow_add-p g c =
    let is : op_at g.N.RunNames.script c.p.inside.side.seen.thread c.p.inside.next ≡ Some c.args.op.now = subst (λ (p : PassesValue). op_at g.N.RunNames.script p.seen.thread p.next ≡ Some c.args.op.now) (sym c.p.view_is) c.requires.op in
    omega (arith, next_few g.N.RunNames.script c.p.inside.side.seen.thread c.p.inside.next c.args.op.now c.self.invariant.lawful is)

pub invariant_of-p : goal.invariant_of-p
invariant_of-p g c =
    let script = g.N.RunNames.script in
    let t : ℕ = c.p.inside.side.seen.thread in
    let n : ℕ = c.p.inside.next in
    let ended : AreEnded script (seen_by c.p.inside.side.seen) t = c.p.invariant.ended (ap (λ (p : PassesValue). p.begun) c.p.view_is ∙ c.requires.begun) in
    let its : op_at script t n ≡ Some c.args.op.now = subst (λ (p : PassesValue). op_at script p.seen.thread p.next ≡ Some c.args.op.now) (sym c.p.view_is) c.requires.op in
    let is : op_at script t n ≡ Some (Access c.in-Access.task c.in-Access.cpu c.in-Access.addr) = its ∙ ap (λ o. Some o) c.in-Access.is in
    record {
      keep = passes_access script n c.in-Access.task c.in-Access.cpu c.in-Access.addr c.reach-reached.result c.p.inside.side.seen c.reach-reached.new.side.seen ended is c.reach-reached.ensures.accessed c.p.invariant.keep;
      lists_are = subst (λ u. AreReady (rooms_of script.machine (drop (n + 1) (ops_of script u))) c.p.inside.looks) (sym c.reach-reached.ensures.accessed.thread)
          (lists_after_access script t n c.args.op.now c.p.inside.looks its c.requires.access c.p.invariant.lists_are);
      room = c.p.invariant.room;
      share_is = resting_after g.T.NamedTable.table t c.reach-reached.new.side.seen.thread (n + 1) c.reach-reached.new.side.share c.reach-reached.ensures.accessed.thread c.reach-reached.ensures.worker;
      ended = λ begun. still_ended script (seen_by c.p.inside.side.seen) (seen_by c.reach-reached.new.side.seen) t c.reach-reached.new.side.seen.thread
          (HasGrown-accessed script n c.in-Access.task c.in-Access.cpu c.in-Access.addr c.reach-reached.result c.p.inside.side.seen c.reach-reached.new.side.seen c.reach-reached.ensures.accessed)
          c.reach-reached.ensures.accessed.thread ended;
      cached_is = c.reach-reached.ensures.cached_now;
      noted = c.reach-reached.ensures.noted_now;
    }

pub returns-clause-seen : goal.returns-clause-seen
returns-clause-seen g c =
    subst (λ (p : PassesValue). HasGrown (seen_by p.seen) (seen_by c.reach-reached.new.side.seen)) c.p.view_is
    (HasGrown-accessed g.N.RunNames.script c.p.inside.next c.in-Access.task c.in-Access.cpu c.in-Access.addr c.reach-reached.result c.p.inside.side.seen c.reach-reached.new.side.seen c.reach-reached.ensures.accessed)

pub returns-clause-begun : goal.returns-clause-begun
returns-clause-begun g c = resting_begun g.T.NamedTable.table c.p.inside.side.seen.thread (c.p.inside.next + 1) true c.reach-reached.new.side.share c.reach-reached.ensures.worker
