use Rattle.std.proofs.Common.{◌*◌, arith, ap, List, length, subst, sym}
use Rattle.std.specs.Prelude.{All, not, sum_by}
use Rattle.std.proofs.lemmas.List.Elements.{All-filter}
use Rattle.run_law.proofs.AccessQuotas.{AreWithin-grown, HaveGrown-both, commands_of-le, length-commands_in}
use Rattle.run_law.proofs.rooms.add_ops.Goals as goal
use Rattle.run_law.specs.Quotas.{HaveGrown, access_quota, quotas_of}
use Rattle.script_ops.specs.Fits.{Fits}
use Rattle.script_ops.specs.Slots.{is_access}
use Rattle.script_ops.specs.declared.op.Op.{Op}

pub add_each-requires-clause-fit : goal.add_each-requires-clause-fit
add_each-requires-clause-fit c =
    let s = c.args.script.now in
    subst (λ (os : List Op). All (Fits s.machine s.tasks) os) (sym c.commands.ensures) (All-filter (λ (o : Op). not (is_access o)) (Fits s.machine s.tasks) c.args.ops.now c.requires.fit)

pub add_each-requires-clause-few : goal.add_each-requires-clause-few
add_each-requires-clause-few c = omega (arith, ap length c.commands.ensures, length-commands_in c.args.ops.now, commands_of-le c.args.ops.now, c.requires.few)

pub add_each-requires-clause-small : goal.add_each-requires-clause-small
add_each-requires-clause-small c = AreWithin-grown (λ i. sum_by (access_quota c.args.script.now.machine i) c.args.ops.now) c.args.rooms.now c.add_accesses.new.rooms c.requires.small c.add_accesses.ensures

pub returns : goal.returns
returns c =
    let m = c.args.script.now.machine in
    HaveGrown-both m c.args.ops.now c.args.rooms.now c.add_accesses.new.rooms c.add_each.new.rooms c.requires.few c.add_accesses.ensures
    (subst (λ (os : List Op). HaveGrown (λ i. quotas_of m i os) (257 * length os) c.add_accesses.new.rooms c.add_each.new.rooms) c.commands.ensures c.add_each.ensures)
