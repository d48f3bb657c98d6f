-- The accesses among some entries of a slice, line by line.
-- (For functions and proofs: no promise of the program stands on it.)
use Rattle.std.specs.Prelude.{◌≡◌, ℕ, ◌+◌, ◌<◌, ◌≤◌, Bool, false, not, ◌==◌, ◌&&◌, All, Contains, List, Option, Some, None, length, slice_get, slice_index_or}
use Rattle.std.specs.List.Sorted.{IsNonDecreasingBy}
use Rattle.cache_core.specs.declared.entry.SliceEntry.{SliceEntry}
use Rattle.cache_core.specs.declared.entry.What.{What}
use Rattle.cache_core.specs.declared.entry.What.TheVariants as whats
use Rattle.private_lru.specs.declared.uses.Access.{Access}
use Rattle.private_lru.specs.declared.uses.LineUse.{LineUse}

-- this entry stands there
abbrev pub StandsAt : List SliceEntry → ℕ → SliceEntry → Type 0
StandsAt entries p e = slice_get entries p ≡ Some e

-- the group and the line of an access
abbrev pub access_of : What → Option Access
access_of (whats.Access hit way owner rmid mask line) = Some (record { line = line; owner = owner })
access_of what = None

-- an access to the line by another than the group
abbrev pub is_foreign : ℕ → ℕ → What → Bool
is_foreign group x (whats.Access hit way owner rmid mask line) = not (owner.0 == group) && (line == x)
is_foreign group x what = false

-- an access at this position
abbrev pub use_at : ℕ → Access → LineUse
use_at at a = record { line = a.line; at = at; owner = a.owner }

-- its line
abbrev pub line_of : LineUse → ℕ
line_of u = u.line

-- its position
abbrev pub place_of : LineUse → ℕ
place_of u = u.at

-- This access stands there.
pub record IsUseIn (entries : List SliceEntry) (u : LineUse) : Type 0 where
  pub entry : SliceEntry
  pub at : StandsAt entries u.at entry
  pub access : access_of entry.what ≡ Some (record { line = u.line; owner = u.owner })

-- The accesses among the first `count` entries, one after the other.
pub record AreAccesses (entries : List SliceEntry) (count : ℕ) (uses : List LineUse) : Type 0 where
  pub each : All (λ (u : LineUse). IsUseIn entries u × (u.at < count)) uses
  pub all : (q : ℕ) (e : SliceEntry) (a : Access) → StandsAt entries q e → access_of e.what ≡ Some a → q < count → Contains uses (use_at q a)
  pub rising : IsNonDecreasingBy place_of uses

-- These accesses stand line by line, and those to one line one after the other.
pub record AreByLine (uses : List LineUse) : Type 0 where
  pub lines : IsNonDecreasingBy line_of uses
  pub places :
      (k : ℕ) (d : LineUse) → k + 1 < length uses → (slice_index_or uses k d).line ≡ (slice_index_or uses (k + 1) d).line
      → (slice_index_or uses k d).at ≤ (slice_index_or uses (k + 1) d).at

-- The accesses among these entries, line by line.
pub record AreUses (entries : List SliceEntry) (uses : List LineUse) : Type 0 where
  pub each : All (IsUseIn entries) uses
  pub all : (q : ℕ) (e : SliceEntry) (a : Access) → StandsAt entries q e → access_of e.what ≡ Some a → Contains uses (use_at q a)
  pub by_line : AreByLine uses
