-- The groups of spans rise.
use Rattle.std.proofs.Common.{ℕ, ◌<◌, map}
use Rattle.std.proofs.lemmas.List.Kept.{AllPairs-filter}
use Rattle.pair_windows.specs.LevelSpans.{exclusive_in, held_from, held_of, is_exclusive, stay_of}
use Rattle.pair_windows.specs.declared.level_masks.LevelMasks.{LevelMasks}
use Rattle.private_lru.specs.declared.span.Span.{Span}
use Rattle.lists.proofs.Pairs.{AllPairs-map}
use Rattle.pair_law.specs.Epochs.{state_at}
use Rattle.pair_text.specs.Values.{PairScriptValue}
use Rattle.pair_text.specs.declared.group.PairGroup.{PairGroup}
use Rattle.pair_windows.proofs.laws.RisingGroups.{RiseByGid-state_at}
use Rattle.private_lru.specs.Ends.{RiseByGroup}
use Rattle.private_lru.specs.declared.exclusive_span.ExclusiveSpan.{ExclusiveSpan}

-- as the counts of windows want them
pub RiseByGroup-held : (script : PairScriptValue) (domain first more : ℕ) → RiseByGroup (map stay_of (held_from script domain first more))
RiseByGroup-held script domain first more =
    AllPairs-map (λ (a b : ℕ). a < b) (λ (s : ExclusiveSpan). s.gid.0) (map stay_of (held_from script domain first more))
    (AllPairs-map (λ (a b : ExclusiveSpan). a.gid.0 < b.gid.0) stay_of (held_from script domain first more)
    (AllPairs-map (λ (a b : Span LevelMasks). a.held.gid.0 < b.held.gid.0) (held_of script domain first more) (exclusive_in (state_at script first))
    (AllPairs-filter (λ (a b : PairGroup). a.gid.0 < b.gid.0) is_exclusive (state_at script first).groups (RiseByGid-state_at script first).rising)))
