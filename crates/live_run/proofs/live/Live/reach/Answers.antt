use Rattle.std.proofs.Common.{◌≡◌, ℕ, ◌<◌, true, Err, Result, Some, sym, subst}
use Rattle.live_run.proofs.Turns.{room_after, turning_first, turning_more}
use Rattle.live_run.proofs.live.Live.reach.Goals as goal
use Rattle.live_run.specs.Accesses.{IsTurning, turns_left}
use Rattle.live_run.specs.Sharing.{IsResting, op_after}
use Rattle.step_world.specs.declared.reached.Reached.{Reached}
use Rattle.machine.specs.Maps.{domain_of, line_of}
use Rattle.machine.specs.Slices.{slice_of_line}
use Rattle.script_ops.specs.Values.{op_at}
use Rattle.script_ops.specs.declared.op.Op.TheVariants.{Access}

pub loop-turn-init : goal.loop-turn-init
loop-turn-init g c = record {
  turning = turning_first g.N.RunNames.script c.args.access.number c.args.access.task c.args.access.cpu c.args.access.addr c.args.side.now.seen c.turn-turn.new.side.seen c.turn-turn.result c.turn-turn.ensures.turned;
  worker = c.turn-turn.ensures.worker;
  cached = c.turn-turn.ensures.cached_now;
  noted = c.turn-turn.ensures.noted_now;
}

pub turn-turn-requires-in-Err-clause-op : goal.turn-turn-requires-in-Err-clause-op
turn-turn-requires-in-Err-clause-op g c =
    let was : IsTurning g.N.RunNames.script c.args.access.number c.args.access.task c.args.access.cpu c.args.access.addr c.args.side.now.seen c.loop-turn.side.seen (Err c.in-Err.field-0) =
    subst (λ (r : Result Reached ℕ). IsTurning g.N.RunNames.script c.args.access.number c.args.access.task c.args.access.cpu c.args.access.addr c.args.side.now.seen c.loop-turn.side.seen r) c.in-Err.is c.loop-turn.invariant.turning in
    subst (λ t. op_at g.N.RunNames.script t c.args.access.number ≡ Some (Access c.args.access.task c.args.access.cpu c.args.access.addr)) (sym was.0.thread) c.requires.op

pub turn-turn-requires-in-Err-clause-room : goal.turn-turn-requires-in-Err-clause-room
turn-turn-requires-in-Err-clause-room g c =
    let i : ℕ = slice_of_line g.N.RunNames.script.machine (domain_of g.N.RunNames.script.machine c.args.access.cpu) (line_of c.args.access.addr) in
    let was : IsTurning g.N.RunNames.script c.args.access.number c.args.access.task c.args.access.cpu c.args.access.addr c.args.side.now.seen c.loop-turn.side.seen (Err c.in-Err.field-0) =
    subst (λ (r : Result Reached ℕ). IsTurning g.N.RunNames.script c.args.access.number c.args.access.task c.args.access.cpu c.args.access.addr c.args.side.now.seen c.loop-turn.side.seen r) c.in-Err.is c.loop-turn.invariant.turning in
    room_after g.N.RunNames.script i c.args.side.now.seen c.loop-turn.side.seen was.0 c.requires.room

pub turn-turn-requires-in-Err-clause-worker : goal.turn-turn-requires-in-Err-clause-worker
turn-turn-requires-in-Err-clause-worker g c =
    let was : IsTurning g.N.RunNames.script c.args.access.number c.args.access.task c.args.access.cpu c.args.access.addr c.args.side.now.seen c.loop-turn.side.seen (Err c.in-Err.field-0) =
    subst (λ (r : Result Reached ℕ). IsTurning g.N.RunNames.script c.args.access.number c.args.access.task c.args.access.cpu c.args.access.addr c.args.side.now.seen c.loop-turn.side.seen r) c.in-Err.is c.loop-turn.invariant.turning in
    subst (λ t. IsResting g.T.NamedTable.table t c.args.access.number true c.loop-turn.side.share) (sym was.0.thread)
    (subst (λ (r : Result Reached ℕ). IsResting g.T.NamedTable.table c.args.side.now.seen.thread (op_after c.args.access.number r) true c.loop-turn.side.share) c.in-Err.is c.loop-turn.invariant.worker)

pub loop-turn-preserved : goal.loop-turn-preserved
loop-turn-preserved g c =
    let was : IsTurning g.N.RunNames.script c.args.access.number c.args.access.task c.args.access.cpu c.args.access.addr c.args.side.now.seen c.loop-turn.side.seen (Err c.in-Err.field-0) =
    subst (λ (r : Result Reached ℕ). IsTurning g.N.RunNames.script c.args.access.number c.args.access.task c.args.access.cpu c.args.access.addr c.args.side.now.seen c.loop-turn.side.seen r) c.in-Err.is c.loop-turn.invariant.turning in
    record {
      turning = (turning_more g.N.RunNames.script c.args.access.number c.args.access.task c.args.access.cpu c.args.access.addr c.in-Err.field-0 c.args.side.now.seen c.loop-turn.side.seen c.turn-turn-in-Err.new.side.seen c.turn-turn-in-Err.result was c.turn-turn-in-Err.ensures.turned).0;
      worker = subst (λ t. IsResting g.T.NamedTable.table t (op_after c.args.access.number c.turn-turn-in-Err.result) true c.turn-turn-in-Err.new.side.share) was.0.thread c.turn-turn-in-Err.ensures.worker;
      cached = c.turn-turn-in-Err.ensures.cached_now;
      noted = c.turn-turn-in-Err.ensures.noted_now;
    }

pub loop-turn-smaller : goal.loop-turn-smaller
loop-turn-smaller g c =
    let was : IsTurning g.N.RunNames.script c.args.access.number c.args.access.task c.args.access.cpu c.args.access.addr c.args.side.now.seen c.loop-turn.side.seen (Err c.in-Err.field-0) =
    subst (λ (r : Result Reached ℕ). IsTurning g.N.RunNames.script c.args.access.number c.args.access.task c.args.access.cpu c.args.access.addr c.args.side.now.seen c.loop-turn.side.seen r) c.in-Err.is c.loop-turn.invariant.turning in
    subst (λ (r : Result Reached ℕ). turns_left g.N.RunNames.script c.turn-turn-in-Err.result < turns_left g.N.RunNames.script r) (sym c.in-Err.is)
    (turning_more g.N.RunNames.script c.args.access.number c.args.access.task c.args.access.cpu c.args.access.addr c.in-Err.field-0 c.args.side.now.seen c.loop-turn.side.seen c.turn-turn-in-Err.new.side.seen c.turn-turn-in-Err.result was c.turn-turn-in-Err.ensures.turned).1
