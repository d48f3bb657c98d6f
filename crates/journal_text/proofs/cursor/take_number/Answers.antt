use Rattle.std.proofs.Common.{rules}
use Rattle.journal_text.proofs.laws.Taken.{Takes-one, TakesNone-space, TakesNone-word}
use Rattle.journal_text.proofs.cursor.take_number.Goals as goal

pub returns-in_err-after : goal.returns-in_err-after
returns-in_err-after c = rw c.from_residual.ensures (TakesNone-space c.args.text.now c.in_err-after.ensures)

pub returns-in_err-n : goal.returns-in_err-n
returns-in_err-n c = rw c.from_residual-in_err-n.ensures (TakesNone-word c.in_ok-after.after.now c.first_word.result.0.now c.first_word.result.1.now c.args.text.now c.in_ok-after.ensures c.first_word.ensures c.in_err-n.ensures)

pub returns : goal.returns
returns c = Takes-one c.in_ok-n.n c.in_ok-after.after.now c.first_word.result.0.now c.first_word.result.1.now c.args.text.now (search rules) c.in_ok-after.ensures c.first_word.ensures c.in_ok-n.ensures
