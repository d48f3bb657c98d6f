use Rattle.std.proofs.Common.{◌+◌}
use Rattle.num_text.proofs.hexadecimals.+push_digits.Given as goal

abbrev pub decreases-push_digits : goal.decreases-push_digits
decreases-push_digits l = l.n + l.width
