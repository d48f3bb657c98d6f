use Rattle.std.proofs.Common.{ℕ, ◌<◌}
use Rattle.journal_check.specs.Slots.{HasLine, place_at}
use Rattle.journal_check.proofs.victims.is_missing.Given as goal

abbrev pub invariant-loop-way : goal.invariant-loop-way
invariant-loop-way l = (i : ℕ) → i < l.way → HasLine (place_at l.slots l.set i) l.line → ⊥
