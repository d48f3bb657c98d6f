use Rattle.std.proofs.Common.{arith, refl}
use Rattle.pair_law.specs.commands.Mkdir as mkdir
use Rattle.pair_tree.proofs.NewGroups.{class_count-few, length-made}
use Rattle.pair_tree.specs.Tables.{state_of}
use Rattle.pair_tree.proofs.tables.Tables.mkdir.Goals as goal

pub push_reserved-requires : goal.push_reserved-requires
push_reserved-requires c =
    let t = c.args.self.now in
    let few = length-made c.args.m.now (state_of t) c.requires.machines c.requires.sound c.args.name.now c.in-Ok.ensures.0 in
    omega (arith, few, class_count-few c.args.m.now c.requires.machines, t.groups.ok.0, t.roomy)

pub returns-in-Ok : goal.returns-in-Ok
unfolding mkdir.accepted
returns-in-Ok c =
    let accepted = c.in-Ok.ensures.0 in
    rw accepted (record { reply = refl; state = rw (c.push_reserved.ensures.items, c.in-Ok.ensures.1) refl })
