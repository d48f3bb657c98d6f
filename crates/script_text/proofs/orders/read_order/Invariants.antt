use Rattle.std.proofs.Common.{◌≡◌, length}
use Rattle.line_words.specs.Lines.{words}
use Rattle.script_lines.specs.Arguments.{order_of, order_from}
use Rattle.script_text.proofs.orders.read_order.Given as goal

abbrev pub invariant-numbers : goal.invariant-numbers
invariant-numbers l = order_of (words l.text) ≡ order_from l.order.items (words l.left)

abbrev pub decreases-numbers : goal.decreases-numbers
decreases-numbers l = length l.left
