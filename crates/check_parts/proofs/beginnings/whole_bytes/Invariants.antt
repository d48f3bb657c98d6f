use Rattle.std.proofs.Common.{◌≤◌, length}
use Rattle.check_parts.proofs.beginnings.whole_bytes.Given as goal

abbrev pub invariant-bytes : goal.invariant-bytes
invariant-bytes l = l.end ≤ length l.text

abbrev pub decreases-bytes : goal.decreases-bytes
decreases-bytes l = l.end
