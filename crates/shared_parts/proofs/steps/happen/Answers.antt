use Rattle.shared_parts.proofs.Happenings.{Allows-happen}
use Rattle.shared_parts.proofs.steps.happen.Goals as goal

pub compare_exchange_with-requires : goal.compare_exchange_with-requires
compare_exchange_with-requires g c = (
  c.requires.table,
  c.requires.word,
  Allows-happen g.M.Machine.reached g.M.Machine.shown g.M.Machine.after c.args.board.now.table_id.slots c.args.seat.now.id c.args.change c.args.seat.now.me c.args.event.now c.requires.shown c.requires.may,
)
