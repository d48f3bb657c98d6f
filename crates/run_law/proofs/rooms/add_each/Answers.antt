use Rattle.std.proofs.Common.{◌*◌, ◌+◌, arith, length, subst, sym}
use Rattle.run_law.proofs.GrownRooms.{HaveGrown-all, HaveGrown-next}
use Rattle.run_law.proofs.rooms.add_each.Goals as goal
use Rattle.run_law.specs.Quotas.{quota}
use Rattle.script_ops.specs.Fits.{Fits}
use Rattle.script_ops.specs.declared.op.Op.{Op}

pub add_op-requires-clause-fits : goal.add_op-requires-clause-fits
add_op-requires-clause-fits c =
    let s = c.args.script.now in
    subst (λ (o : Op). Fits s.machine s.tasks o) (sym c.index-ops-i.is) (c.requires.fit c.loop-i.i c.index-ops-i.result c.loop-i-test.true)

pub loop-i-preserved : goal.loop-i-preserved
loop-i-preserved c =
    HaveGrown-next (quota c.args.script.now.machine) c.args.ops.now c.loop-i.i 257 (257 * c.loop-i.i) (257 * (c.loop-i.i + 1)) c.index-ops-i.result c.index-ops-i.result c.args.rooms.now c.loop-i.rooms c.add_op.new.rooms
    c.loop-i-test.true c.index-ops-i.is (omega arith) c.loop-i.invariant c.add_op.ensures

pub returns : goal.returns
returns c =
    HaveGrown-all (quota c.args.script.now.machine) c.args.ops.now c.loop-i.i (257 * c.loop-i.i) (257 * length c.args.ops.now) c.args.rooms.now c.loop-i.rooms
    (omega (arith, c.loop-i-test.false, c.loop-i.auto.i-end)) (omega (arith, c.loop-i-test.false, c.loop-i.auto.i-end)) c.loop-i.invariant
