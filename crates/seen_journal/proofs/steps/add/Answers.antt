use Rattle.std.proofs.Common.{[], ◌∙◌}
use Rattle.std.proofs.lemmas.List.{append-nil}
use Rattle.seen_journal.proofs.Adds.{Allows-add}
use Rattle.seen_journal.proofs.steps.add.Goals as goal

pub fetch_add-requires : goal.fetch_add-requires
fetch_add-requires g c = (c.requires.table.0, c.requires.table.1, Allows-add c.args.board.now.table_id.slots c.args.seat.now.id c.args.seat.now.me c.args.entry.now c.requires.own c.requires.room ([], append-nil _ ∙ c.requires.asked))
