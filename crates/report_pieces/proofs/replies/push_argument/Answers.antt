use Rattle.num_text.proofs.laws.Prints.{filled-no_width}
use Rattle.report_pieces.proofs.replies.push_argument.Goals as goal

pub returns-in-Hexadecimal : goal.returns-in-Hexadecimal
returns-in-Hexadecimal c = rw (c.in-Hexadecimal.is, ← filled-no_width 16 c.args.arg) c.push_hexadecimal.ensures
