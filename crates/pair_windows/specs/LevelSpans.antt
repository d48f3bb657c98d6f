-- Groups that are exclusive, with their masks, and how long they keep them while the commands of a script are taken once more.
-- (For functions and proofs: no promise of the program stands on it.)
use Rattle.std.specs.Prelude.{ℕ, Bool, false, not, ◌==◌, ◌&&◌, ◌||◌, List, filter, map, slice_index}
use Rattle.std.specs.List.{list_all, range_with_len}
use Rattle.std.specs.Option.{option_map_or}
use Rattle.group_tree.specs.Records.{is_mode}
use Rattle.pair_law.specs.Epochs.{state_at}
use Rattle.pair_law.specs.State.{PairState, group_of, mask_in}
use Rattle.pair_text.specs.Values.{Machines, PairScriptValue, side_machine}
use Rattle.pair_text.specs.declared.group.PairGroup.{PairGroup}
use Rattle.pair_text.specs.declared.side.Side.TheVariants.{First, Second}
use Rattle.pair_law.specs.JointWindows.{domain_above}
use Rattle.pair_windows.specs.declared.level_masks.LevelMasks.{LevelMasks}
use Rattle.private_lru.specs.declared.exclusive_span.ExclusiveSpan.{ExclusiveSpan}
use Rattle.rc_base.specs.declared.names.Mode.TheVariants.{Exclusive}
use Rattle.private_lru.specs.Keeping.{span_of}
use Rattle.private_lru.specs.declared.span.Span.{Span}

-- whether a group is exclusive
abbrev pub is_exclusive : PairGroup → Bool
is_exclusive g = is_mode Exclusive g.mode

-- the exclusive groups of a state, in order of creation
abbrev pub exclusive_in : PairState → List PairGroup
exclusive_in s = filter is_exclusive s.groups

-- a group's masks in an L3 domain and in all L2 domains
abbrev pub masks_of : ℕ → PairGroup → LevelMasks
masks_of domain g = record { gid = g.gid; first = g.first; second = mask_in Second domain g }

-- whether a group is exclusive and has these masks, in an L3 domain and in the L2 domains that lie in it
abbrev pub has_same : Machines → ℕ → LevelMasks → PairGroup → Bool
has_same m domain held later =
    is_mode Exclusive later.mode && (mask_in Second domain later == held.second)
    && list_all (λ x. not (domain_above m x == domain) || (mask_in First x later == slice_index held.first x)) (range_with_len 0 (side_machine m First).domains)

-- whether the group of a state has them
abbrev pub goes_on : Machines → ℕ → LevelMasks → PairState → Bool
goes_on m domain held s = option_map_or (has_same m domain held) (group_of s held.gid) false

-- the same of the state of an epoch
abbrev pub goes_on_at : PairScriptValue → ℕ → LevelMasks → ℕ → Bool
goes_on_at script domain held epoch = goes_on script.machines domain held (state_at script epoch)

-- the masks of a group of an epoch, with the last epoch, of so many more, up to which it keeps them
abbrev pub held_of : PairScriptValue → ℕ → ℕ → ℕ → PairGroup → Span LevelMasks
held_of script domain epoch more g = span_of (goes_on_at script domain) epoch more (masks_of domain g)

-- the same of all exclusive groups of the epoch, in order of creation
abbrev pub held_from : PairScriptValue → ℕ → ℕ → ℕ → List (Span LevelMasks)
held_from script domain epoch more = map (held_of script domain epoch more) (exclusive_in (state_at script epoch))

-- the same, as the counts of windows know it
abbrev pub stay_of : Span LevelMasks → ExclusiveSpan
stay_of s = record { last = s.last; gid = s.held.gid; mask = s.held.second }
