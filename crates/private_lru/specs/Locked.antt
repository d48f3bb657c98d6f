-- What holds of the lines of a locked region.
use Rattle.std.specs.Prelude.{◌≡◌, ℕ, ◌<◌, Bool, true, false, ◌==◌, List, length, take, slice_index_or}
use Rattle.std.specs.List.{list_any}
use Rattle.cache_core.specs.Filled.{empties}
use Rattle.cache_core.specs.declared.entry.What.{What}
use Rattle.cache_core.specs.declared.entry.What.TheVariants.{Access, Drop}
use Rattle.cache_core.specs.declared.entry.SliceEntry.{SliceEntry}
use Rattle.cbm.specs.Masks.{overlaps}
use Rattle.private_lru.specs.Covered.{loads}

-- (For proofs.) an entry that leaves the ways of a region alone: no access of it may fill there, and no other entry empties every
-- place
abbrev pub Spares : ℕ → What → Type 0
Spares region (Access hit way owner rmid mask line) = overlaps mask region ≡ false
Spares region what = empties what ≡ false

-- whether this is a drop of this line
abbrev pub is_drop : ℕ → What → Bool
is_drop x (Drop line at) = line == x
is_drop x what = false

-- whether one of these entries drops the line
abbrev pub drops_line : List SliceEntry → ℕ → Bool
drops_line entries x = list_any (λ (e : SliceEntry). is_drop x e.what) entries

-- an access to a line that a lock loaded, and that none of the entries since drops, hits
abbrev pub HitsLoaded : ℕ → What → List SliceEntry → What → Type 0
HitsLoaded sets lock earlier (Access hit way owner rmid mask line) = loads sets lock line ≡ true → drops_line earlier line ≡ false → hit ≡ true
HitsLoaded sets lock earlier what = Unit {0}

-- each access in this window after the lock hits so
abbrev pub HoldsLoaded : ℕ → What → List SliceEntry → Type 0
HoldsLoaded sets lock window =
    (at : ℕ) (e : SliceEntry) → at < length window → HitsLoaded sets lock (take at window) (slice_index_or window at e).what
