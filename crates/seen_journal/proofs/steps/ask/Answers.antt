use Rattle.seen_journal.proofs.Loads.{Allows-ask}
use Rattle.seen_journal.proofs.steps.ask.Goals as goal

pub compare_exchange_with-requires : goal.compare_exchange_with-requires
compare_exchange_with-requires g c = (c.requires.table.0, c.requires.table.1, Allows-ask c.args.board.now.table_id.slots c.args.seat.now.id c.args.seat.now.me c.args.entry.now c.requires.pass c.requires.quota)
