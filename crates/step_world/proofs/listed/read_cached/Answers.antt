use Rattle.std.proofs.Common.{refl, arith}
use Rattle.step_world.proofs.TaggedWorlds.{access-fits, tagged}
use Rattle.step_world.proofs.listed.read_cached.Goals as goal

pub cached_tag-tag-requires-clause-fits : goal.cached_tag-tag-requires-clause-fits
cached_tag-tag-requires-clause-fits c =
    let fits = access-fits c.args.script.now c.args.world.now c.args.turn.thread c.args.access.task c.args.access.cpu c.args.access.addr c.requires.world c.requires.next in
    (fits.0, fits.1, omega arith)

pub returns-clause-world : goal.returns-clause-world
returns-clause-world c =
    (tagged c.args.script.now c.args.turn.thread c.args.turn.number c.args.access.task c.args.access.cpu c.args.access.addr c.cached_tag-tag.result c.args.world.now _ c.requires.world c.requires.next c.requires.number c.requires.place c.requires.free c.cached_tag-tag.ensures.tag
    (record { tree = refl; commands = refl; lists = refl; closing = refl; phase = refl; threads = c.move_to.ensures }) refl refl).0
