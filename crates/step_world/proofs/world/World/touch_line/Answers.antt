use Rattle.step_world.proofs.PresentThreads.{accesses}
use Rattle.step_world.proofs.world.World.touch_line.Goals as goal

pub unreachable-requires : goal.unreachable-requires
unreachable-requires c =
    let r = c.requires in
    accesses c.args.script.now c.args.turn.thread c.args.tag c.args.op.now c.args.self.now r.world r.next r.place (λ task cpu addr is. c.in_default.not-Access task cpu addr is)
