use Rattle.std.proofs.Common.{◌++◌, ap, ◌∙◌}
use Rattle.file_view.proofs.Shorts.{length-digits, hexadecimal-zero_width}
use Rattle.file_view.proofs.reasons.push_argument.Goals as goal
use Rattle.num_text.proofs.laws.Prints.{length-decimal}

pub returns-in-Decimal-clause-short : goal.returns-in-Decimal-clause-short
returns-in-Decimal-clause-short c = rw c.in-Decimal.is (length-decimal c.args.arg c.ranges.arg.fits)

pub returns-in-Hexadecimal-clause-bytes : goal.returns-in-Hexadecimal-clause-bytes
returns-in-Hexadecimal-clause-bytes c = rw c.in-Hexadecimal.is (c.push_hex.ensures.bytes ∙ ap (λ t. c.args.out.now.bytes ++ t) (hexadecimal-zero_width c.args.arg))

pub returns-in-Hexadecimal-clause-spare : goal.returns-in-Hexadecimal-clause-spare
returns-in-Hexadecimal-clause-spare c = rw (c.in-Hexadecimal.is, ← hexadecimal-zero_width c.args.arg) c.push_hex.ensures.spare

pub returns-in-Hexadecimal-clause-short : goal.returns-in-Hexadecimal-clause-short
returns-in-Hexadecimal-clause-short c = rw c.in-Hexadecimal.is (length-digits c.args.arg c.ranges.arg.fits)
