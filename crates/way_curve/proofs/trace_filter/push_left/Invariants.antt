use Rattle.std.proofs.Common.{◌≡◌, ℕ, ◌+◌, ◌*◌, ◌≤◌, List, length}
use Rattle.lackey_text.specs.Uses.{uses_left, uses_of}
use Rattle.way_curve.specs.FilterTexts.{AreInMemory}
use Rattle.way_curve.specs.Filters.{WritesLeft}
use Rattle.way_curve.specs.LevelSteps.{LevelsValue}
use Rattle.way_curve.proofs.trace_filter.push_left.Given as goal

abbrev pub invariant-loop-used : goal.invariant-loop-used
invariant-loop-used l = record {
  next : (goal.iterator-loop-used).can_next l.used-iterator;
  finite : (goal.iterator-loop-used).is_finite l.used-iterator;
  small : AreInMemory (uses_left l.used-iterator);
  spare : 23 * length (uses_left l.used-iterator) ≤ l.out.spare;
  room : length l.out.bytes + l.out.spare ≡ length l.initial.out.bytes + l.initial.out.spare;
  left : (now : LevelsValue) (text : List ℕ) → WritesLeft l.levels now l.out.bytes text (uses_left l.used-iterator) → WritesLeft l.initial.levels now l.initial.out.bytes text (uses_of l.said);
}
