use Rattle.std.proofs.Common.{refl}
use Rattle.step_world.proofs.TaggedWorlds.{access-fits, tagged}
use Rattle.step_world.proofs.steps.read_tag.Goals as goal

pub resolve-tag-requires-clause-task : goal.resolve-tag-requires-clause-task
resolve-tag-requires-clause-task c = (access-fits c.args.script.now c.args.world.now c.args.turn.thread c.args.access.task c.args.access.cpu c.args.access.addr c.requires.world c.requires.next).0

pub resolve-tag-requires-clause-cpu : goal.resolve-tag-requires-clause-cpu
resolve-tag-requires-clause-cpu c = (access-fits c.args.script.now c.args.world.now c.args.turn.thread c.args.access.task c.args.access.cpu c.args.access.addr c.requires.world c.requires.next).1

pub returns-clause-world : goal.returns-clause-world
returns-clause-world c =
    let told = c.resolve-tag.ensures in
    (tagged c.args.script.now c.args.turn.thread c.args.turn.number c.args.access.task c.args.access.cpu c.args.access.addr c.resolve-tag.result c.args.world.now _ c.requires.world c.requires.next c.requires.number c.requires.place c.requires.free
    (record { epoch = told.epoch; owner = told.owner; class = told.class; rmid = told.rmid; mask = told.mask; domain = told.domain })
    (record { tree = refl; commands = refl; lists = refl; closing = refl; phase = refl; threads = c.move_to.ensures }) refl refl).0
