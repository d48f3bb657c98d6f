use Rattle.shared_parts.proofs.Happenings.{Allows-happen_where}
use Rattle.shared_parts.proofs.steps.happen_where.Goals as goal

pub load-requires : goal.load-requires
load-requires g c = (
  c.requires.table.0,
  c.requires.table.1,
  Allows-happen_where g.M.Machine.reached g.M.Machine.shown g.M.Machine.after c.args.board.now.table_id.slots c.args.seat.now.id c.args.number c.args.seat.now.me c.args.event.now g.J.Told.event g.J.Told.number c.requires.told.0
      c.requires.told.1 c.requires.quiet c.requires.may,
)
