use Rattle.std.proofs.Common.{◌≡◌, filter, map, take}
use Rattle.pair_windows.specs.LevelSpans.{is_exclusive, masks_of}
use Rattle.private_lru.specs.Keeping.{span_to}
use Rattle.pair_windows.proofs.level_spans.level_spans.Given as goal

abbrev pub invariant-loop-group : goal.invariant-loop-group
invariant-loop-group l = l.held.items ≡ map (λ g. span_to l.epoch (masks_of l.domain g)) (filter is_exclusive (take l.group-index l.group-items))
