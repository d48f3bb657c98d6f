-- The law of one slice, from the law of policies: a group in a slice and its private set under the policy.
use Rattle.std.specs.Prelude.{◌≡◌, ℕ, ◌%◌, ◌<◌, ◌≤◌, true, false, ◌==◌, MatchBool, List, ◌∷◌, is_some, length, slice_index_or, take}
use Rattle.std.specs.List.{All}
use Rattle.cache_core.specs.declared.entry.What.{What}
use Rattle.cache_core.specs.declared.entry.What.TheVariants.{Access, Flush, Lock}
use Rattle.cache_core.specs.declared.entry.SliceEntry.{SliceEntry}
use Rattle.cache_core.specs.Filled.{empties}
use Rattle.cache_core.specs.History.{Shape, IsLegal}
use Rattle.cbm.specs.Masks.{overlaps}
use Rattle.private_lru.specs.Covered.{is_covered}
use Rattle.private_lru.specs.Isolation.{between}
use Rattle.policy_law.specs.Policies.{way_of, set_after, empty_set}
use Rattle.policy_law.specs.Isolation.{private_events}
use Rattle.policy_law.specs.KnownPolicies.{Stamps, lru}
use Rattle.policy_law.specs.SliceSets.{events_in, ways_in}

-- an entry that may open a window of the mask: a flush, or a lock of other ways
abbrev pub OpensFor : ℕ → What → Type 0
OpensFor mask Flush = Unit {0}
OpensFor mask (Lock others first_line) = overlaps others mask ≡ false
OpensFor mask what = ⊥

-- an entry that leaves the ways of the mask to the group: the group's accesses have the mask, another owner's have masks with no way
-- of it, and nothing empties the slice
abbrev pub LeavesWays : ℕ → ℕ → What → Type 0
LeavesWays group mask (Access hit way owner rmid its line) = MatchBool (owner.0 == group) (its ≡ mask) (overlaps its mask ≡ false)
LeavesWays group mask what = empties what ≡ false

-- an access of the group after these entries has a mask with a way of the cache, and hits just where its line is in the private set of
-- what the entries are to the group
abbrev pub HitsAsAlone : Shape → ℕ → Stamps → List SliceEntry → What → Type 0
HitsAsAlone m group s earlier (Access hit way owner rmid mask line) =
    (owner.0 == group) ≡ true
    → (0 < length (ways_in m.ways mask)) × (hit ≡ is_some (way_of line (set_after lru (empty_set s) (private_events (events_in m group (line % m.sets) earlier))).places))
HitsAsAlone m group s earlier what = Unit {0}

-- From a flush, or from a lock of other ways, on, as long as each entry leaves the ways of the mask to the group, each covered access
-- does.
abbrev pub SlicesIsolate : Type 0
SlicesIsolate =
    (m : Shape) (entries : List SliceEntry) (from to group mask : ℕ) (opening : SliceEntry) (s : Stamps)
    → 0 < m.sets → m.ways ≤ 64 → IsLegal m entries → from < to → to ≤ length entries → opening ≡ slice_index_or entries from opening → OpensFor mask opening.what
    → All (λ (e : SliceEntry). LeavesWays group mask e.what) (between entries from to) → ((w : ℕ) → s.stamp w < s.clock)
    → (at : ℕ) (e : SliceEntry) → at < length (between entries from to)
    → is_covered m.sets group opening.what (between entries from to) (take at (between entries from to)) ≡ true
    → HitsAsAlone m group s (opening ∷ take at (between entries from to)) (slice_index_or (between entries from to) at e).what
