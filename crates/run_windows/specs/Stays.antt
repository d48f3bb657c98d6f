-- The groups that are exclusive in a domain at an epoch, and how long each of them stays so.
-- (For functions and proofs: no promise of the program stands on it.)
use Rattle.std.specs.Prelude.{ℕ, ◌<◌, Bool, ◌==◌, ◌&&◌, All, AllPairs, Contains, List, find, filter, map, slice_index}
use Rattle.std.specs.Option.{option_map_or}
use Rattle.group_tree.specs.Records.{has_mode}
use Rattle.group_tree.specs.declared.group.Group.{Group}
use Rattle.rc_base.specs.declared.names.Gid.{Gid}
use Rattle.rc_base.specs.declared.names.Mode.TheVariants.{Exclusive}
use Rattle.run_law.specs.Journals.{JournalsValue}
use Rattle.run_windows.specs.Epochs.{state_at}
use Rattle.run_windows.specs.Windows.{IsExclusive, StaysExclusive}
use Rattle.private_lru.specs.declared.exclusive_span.ExclusiveSpan.{ExclusiveSpan}
use Rattle.run_windows.specs.declared.exclusive_group.ExclusiveGroup.{ExclusiveGroup}
use Rattle.script_ops.specs.Values.{ScriptValue}

-- a group with its masks
abbrev pub exclusive_of : Group → ExclusiveGroup
exclusive_of g = record { gid = g.gid; masks = g.masks }

-- the exclusive ones of these groups
abbrev pub exclusive_in : List Group → List ExclusiveGroup
exclusive_in groups = map exclusive_of (filter (has_mode Exclusive) groups)

-- its mask in a domain
abbrev pub mask_of : ℕ → ExclusiveGroup → ℕ
mask_of domain t = slice_index t.masks domain

-- whether a stay is of the same group with the same mask
abbrev pub is_same : ℕ → ExclusiveGroup → ExclusiveSpan → Bool
is_same domain t later = (later.gid.0 == t.gid.0) && (later.mask == mask_of domain t)

-- a group that is exclusive on the same mask from the next change on stays so as long as it does from there
abbrev pub last_of : ℕ → ℕ → List ExclusiveSpan → ExclusiveGroup → ℕ
last_of domain last next t = option_map_or (λ (later : ExclusiveSpan). later.last) (find (is_same domain t) next) last

-- the group with its mask and that epoch
abbrev pub stay_of : ℕ → ℕ → List ExclusiveSpan → ExclusiveGroup → ExclusiveSpan
stay_of domain last next t = record { last = last_of domain last next t; gid = t.gid; mask = mask_of domain t }

-- The exclusive groups of an epoch, rising, each with its mask in the domain and the last epoch at which it is still exclusive on
-- it.
pub record AreStays (script : ScriptValue) (j : JournalsValue) (domain epoch : ℕ) (stays : List ExclusiveSpan) : Type 0 where
  pub each : All (λ (s : ExclusiveSpan). StaysExclusive script j domain s.gid s.mask epoch s.last) stays
  pub all : (group : Gid) (mask : ℕ) → IsExclusive domain group mask (state_at script j epoch) → Contains (map (λ (s : ExclusiveSpan). s.gid.0) stays) group.0
  pub rising : AllPairs (λ (a b : ℕ). a < b) (map (λ (s : ExclusiveSpan). s.gid.0) stays)
