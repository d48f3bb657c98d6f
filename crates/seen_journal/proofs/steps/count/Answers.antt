use Rattle.seen_journal.proofs.Loads.{Allows-count}
use Rattle.seen_journal.proofs.steps.count.Goals as goal

pub load-requires : goal.load-requires
load-requires g c = (c.requires.table.0, c.requires.table.1, Allows-count c.args.board.now.table_id.slots c.args.seat.now.id c.args.seat.now.me)
