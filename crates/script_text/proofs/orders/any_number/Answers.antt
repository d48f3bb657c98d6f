use Rattle.std.proofs.Common.{sym}
use Rattle.script_text.proofs.OrderNumbers.{BeginsWithOrderNumber-word}
use Rattle.script_text.proofs.orders.any_number.Goals as goal

pub returns-in-Some-order_number : goal.returns-in-Some-order_number
returns-in-Some-order_number c =
    BeginsWithOrderNumber-word c.args.text.now c.in-Some.word.now c.in-Some.rest.now c.from_word.result.now c.in-Some-order_number.number c.in-Some.ensures.words.0 c.in-Some.ensures.words.1 (sym c.in-Some-order_number.ensures) c.from_word.ensures
