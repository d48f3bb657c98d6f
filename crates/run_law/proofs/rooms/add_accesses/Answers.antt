use Rattle.std.proofs.Common.{◌≡◌, ◌+◌, ◌-◌, ◌*◌, ◌^◌, ap, arith, get_or, refl, slice_index, subst}
use Rattle.std.specs.Prelude.{sum_by}
use Rattle.machine.specs.Ranges.{InRange}
use Rattle.machine.specs.Slices.{slice_count}
use Rattle.run_law.proofs.AccessQuotas.{commands_of-le}
use Rattle.run_law.proofs.GrownRooms.{HaveGrown-all, HaveGrown-next, HaveGrown-set}
use Rattle.run_law.proofs.laws.AccessesAlone.{access_quotas-one}
use Rattle.run_law.proofs.rooms.add_accesses.Goals as goal
use Rattle.run_law.specs.Quotas.{access_quota}
use Rattle.script_ops.specs.declared.op.Op.TheVariants.{Tick}

pub overflow_sub-rooms : goal.overflow_sub-rooms
overflow_sub-rooms c = omega (arith, c.requires.commands, c.len.ensures, commands_of-le c.args.ops.now)

pub returns-then-slice_count-eq1 : goal.returns-then-slice_count-eq1
returns-then-slice_count-eq1 c =
    let script = c.args.script.now in
    let m = script.machine in
    let ops = c.args.ops.now in
    let rooms = c.args.rooms.now in
    let one : slice_count m ≡ 1 = omega (arith, c.if-slice_count-eq1.true, c.slice_count.ensures.count, ap slice_count c.machine.ensures) in
    let all = access_quotas-one m script.tasks 0 ops (subst InRange c.machine.ensures c.machine.result.now.in_range) one (omega arith) c.requires.fit in
    HaveGrown-set (λ i. sum_by (access_quota m i) ops) (2 ^ 30) 0 (slice_index rooms 0 + (c.len.result - c.args.commands)) rooms (omega (arith, c.requires.count, one)) (omega (arith, c.len.ensures, all, c.requires.commands))
    (omega (arith, all, c.requires.few)) (λ i within other. absurd (other (omega (arith, within, c.requires.count, one))))

pub loop-i-preserved : goal.loop-i-preserved
loop-i-preserved c =
    HaveGrown-next (access_quota c.args.script.now.machine) c.args.ops.now c.loop-i.i 257 (257 * c.loop-i.i) (257 * (c.loop-i.i + 1)) Tick (get_or c.args.ops.now c.loop-i.i Tick) c.args.rooms.now c.loop-i.rooms c.add_access.new.rooms
    (omega (arith, c.loop-i-test.true, c.len-i-end.ensures)) refl (omega arith) c.loop-i.invariant (c.add_access.ensures Tick)

pub returns : goal.returns
returns c =
    HaveGrown-all (access_quota c.args.script.now.machine) c.args.ops.now c.loop-i.i (257 * c.loop-i.i) (2 ^ 30) c.args.rooms.now c.loop-i.rooms
    (omega (arith, c.loop-i-test.false, c.loop-i.auto.i-end, c.len-i-end.ensures)) (omega (arith, c.requires.few, c.loop-i.auto.i-end, c.len-i-end.ensures)) c.loop-i.invariant
