use Rattle.std.proofs.Common.{ℕ, ◌<◌}
use Rattle.std.specs.Prelude.{IsTrue, nat_lt}
use Rattle.cbm.specs.Masks.{has_way}
use Rattle.journal_check.specs.Outcomes.{IsNotOlder, used_at}
use Rattle.journal_check.proofs.victims.are_not_older.Given as goal

abbrev pub invariant-loop-w : goal.invariant-loop-w
invariant-loop-w l = (i : ℕ) → i < l.w → IsTrue (has_way l.mask i) → IsNotOlder (used_at l.slots l.set i) l.used (nat_lt i l.way)
