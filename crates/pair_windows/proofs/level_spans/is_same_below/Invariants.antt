use Rattle.std.proofs.Common.{◌≡◌, ◌||◌, not, slice_index}
use Rattle.std.specs.Prelude.{◌==◌}
use Rattle.std.specs.List.{list_all, range_with_len}
use Rattle.pair_law.specs.JointWindows.{domain_above}
use Rattle.pair_windows.proofs.level_spans.is_same_below.Given as goal

abbrev pub invariant-loop-x : goal.invariant-loop-x
invariant-loop-x l = l.same ≡ list_all (λ x. not (domain_above l.script.machines x == l.domain) || (slice_index l.first x == slice_index l.held x)) (range_with_len 0 l.x)
