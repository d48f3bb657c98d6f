use Rattle.std.proofs.Common.{◌+◌, ◌≤◌, length}
use Rattle.lackey_text.specs.Uses.{uses_left, uses_of}
use Rattle.way_curve.specs.Filtering.{AddFiltered, FilteredValue, behind}
use Rattle.way_curve.proofs.filtered_curves.filter_line.Given as goal

abbrev pub invariant-loop-used : goal.invariant-loop-used
invariant-loop-used l = record {
  next : (goal.iterator-loop-used).can_next l.used-iterator;
  finite : (goal.iterator-loop-used).is_finite l.used-iterator;
  count : l.sampled.curves.uses + length (uses_left l.used-iterator) ≤ l.initial.sampled.curves.uses + length (uses_of l.said);
  filtered : (now : FilteredValue) → AddFiltered (behind l.levels l.sampled) now (uses_left l.used-iterator) → AddFiltered (behind l.initial.levels l.initial.sampled) now (uses_of l.said);
}
