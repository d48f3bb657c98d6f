use Rattle.std.proofs.Common.{◌≡◌, ◌+◌, ◌<◌, ◌≤◌, ◌^◌, All, Some, length}
use Rattle.lackey_text.specs.Uses.{uses_left, uses_of}
use Rattle.lackey_text.specs.declared.uses.LineUse.{LineUse}
use Rattle.share_plans.specs.Filtering.{AddFiltered, FilteredValue, behind}
use Rattle.share_plans.specs.Streams.{uses_by}
use Rattle.share_plans.proofs.filtered_played.filter_uses.Given as goal

abbrev pub invariant-loop-used : goal.invariant-loop-used
invariant-loop-used l = record {
  next : (goal.iterator-loop-used).can_next l.used-iterator;
  finite : (goal.iterator-loop-used).is_finite l.used-iterator;
  levels : length l.levels ≡ length l.initial.levels;
  programs : length l.played.programs ≡ length l.initial.played.programs;
  near : All (λ (u : LineUse). u.line < 2 ^ 42) (uses_left l.used-iterator);
  count : l.played.shared.uses + length (uses_left l.used-iterator) ≤ l.initial.played.shared.uses + length (uses_of l.said);
  filtered : (now : FilteredValue) → AddFiltered (behind l.levels l.played) now (uses_by (Some l.program) (uses_left l.used-iterator))
      → AddFiltered (behind l.initial.levels l.initial.played) now (uses_by (Some l.program) (uses_of l.said));
}
