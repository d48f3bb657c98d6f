-- A group that has its ways for itself, and what it then notices of others: that they drop its lines, and nothing else.
use Rattle.std.specs.Prelude.{◌≡◌, ℕ, ◌+◌, ◌-◌, ◌%◌, ◌<◌, Bool, true, false, ◌==◌, MatchBool, List, length, take, drop, slice_index_or}
use Rattle.cache_core.specs.declared.entry.What.{What}
use Rattle.cache_core.specs.declared.entry.What.TheVariants.{Access, Flush, Lock}
use Rattle.cache_core.specs.declared.entry.SliceEntry.{SliceEntry}
use Rattle.cache_core.specs.Filled.{empties}
use Rattle.cbm.specs.Masks.{overlaps}
use Rattle.private_lru.specs.Covered.{is_covered, items, uses_line}
use Rattle.private_lru.specs.Private.{private_hit}

-- the entries after the first place, up to, but not including, the second
abbrev pub between : List SliceEntry → ℕ → ℕ → List SliceEntry
between entries from to = take (to - (from + 1)) (drop (from + 1) entries)

-- (For proofs.) an entry that may open a window of this mask: a flush, or a lock of other ways
abbrev pub Opens : ℕ → What → Type 0
Opens mask Flush = Unit {0}
Opens mask (Lock others first_line) = overlaps others mask ≡ false
Opens mask what = ⊥

-- (For proofs.) an entry that leaves the ways of the mask to the group: the group's accesses have the mask, another owner's have
-- masks with no way of it, and no other entry empties every place
abbrev pub Respects : ℕ → ℕ → What → Type 0
Respects group mask (Access hit way owner rmid its line) = MatchBool (owner.0 == group) (its ≡ mask) (overlaps its mask ≡ false)
Respects group mask what = empties what ≡ false

-- an access of the group with these lines hits just where it does in a private cache that has seen its earlier items of the set
abbrev pub HitsAsPrivate : ℕ → ℕ → (ℕ → Bool) → ℕ → List SliceEntry → What → Type 0
HitsAsPrivate sets group own ways earlier (Access hit way owner rmid mask line) =
    (owner.0 == group) ≡ true → hit ≡ private_hit ways (items sets group (line % sets) own earlier) line
HitsAsPrivate sets group own ways earlier what = Unit {0}

-- The group is isolated in the window: each covered access hits just where it does in a private cache of this many ways.
abbrev pub IsIsolated : ℕ → ℕ → ℕ → What → List SliceEntry → Type 0
IsIsolated sets group ways opening window =
    (at : ℕ) (e : SliceEntry) → at < length window → is_covered sets group opening window (take at window) ≡ true
    → HitsAsPrivate sets group (uses_line group window) ways (take at window) (slice_index_or window at e).what
