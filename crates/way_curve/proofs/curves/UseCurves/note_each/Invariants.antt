use Rattle.std.proofs.Common.{◌≡◌, ◌+◌, length}
use Rattle.lackey_text.specs.Uses.{uses_left, uses_of}
use Rattle.way_curve.specs.Counting.{AddUses, CurvesValue}
use Rattle.way_curve.proofs.curves.UseCurves.note_each.Given as goal

abbrev pub invariant-loop-used : goal.invariant-loop-used
invariant-loop-used l = record {
  next : (goal.iterator-loop-used).can_next l.used-iterator;
  finite : (goal.iterator-loop-used).is_finite l.used-iterator;
  count : l.self.uses + length (uses_left l.used-iterator) ≡ l.initial.self.uses + length (uses_of l.said);
  counted : (now : CurvesValue) → AddUses l.self now (uses_left l.used-iterator) → AddUses l.initial.self now (uses_of l.said);
}
