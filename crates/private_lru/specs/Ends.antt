-- Up to where the accesses of exclusive groups are covered.
-- (For functions and proofs: no promise of the program stands on it.)
use Rattle.std.specs.Prelude.{◌≡◌, ℕ, ◌<◌, ◌≤◌, ◌⊎◌, Bool, true, false, ◌==◌, AllPairs, List, Option, Some, None, length, map, nat_lt, slice_index_or}
use Rattle.std.specs.List.{position_or_len}
use Rattle.cache_core.specs.declared.entry.SliceEntry.{SliceEntry}
use Rattle.cache_core.specs.declared.entry.What.{What}
use Rattle.private_lru.specs.Covered.{is_loaded_use, is_use}
use Rattle.private_lru.specs.Uses.{StandsAt, is_foreign}
use Rattle.private_lru.specs.declared.exclusive_span.ExclusiveSpan.{ExclusiveSpan}

-- the groups rise
abbrev pub RiseByGroup : List ExclusiveSpan → Type 0
RiseByGroup stays = AllPairs (λ (a b : ℕ). a < b) (map (λ (s : ExclusiveSpan). s.gid.0) stays)

-- how many of these entries a window holds that ends past this epoch; none of them empties the slice
abbrev pub held_len : ℕ → List SliceEntry → ℕ
held_len last entries = position_or_len (λ (e : SliceEntry). nat_lt last e.epoch) entries

-- The highest epoch of the first `count` entries, or 0.
pub record IsHigh (entries : List SliceEntry) (count high : ℕ) : Type 0 where
  pub most : (q : ℕ) (e : SliceEntry) → StandsAt entries q e → q < count → e.epoch ≤ high
  pub reached : (high ≡ 0) ⊎ ((q : ℕ) × (e : SliceEntry) × StandsAt entries q e × (q < count) × (e.epoch ≡ high))

-- whether a place is this one
abbrev pub is_at : Option ℕ → ℕ → Bool
is_at None j = false
is_at (Some i) j = i == j

-- The entry stands there, in a window that ends past this epoch.
pub record IsHeld (entries : List SliceEntry) (last q : ℕ) (e : SliceEntry) : Type 0 where
  pub at : StandsAt entries q e
  pub held : q < held_len last entries

-- No access of a group's window after the end of its covered ones is covered: the opening loaded the line of one, or another's
-- access to such a line stands there. All before it are.
pub record IsEnd (sets : ℕ) (opening : What) (entries : List SliceEntry) (s : ExclusiveSpan) (end : ℕ) : Type 0 where
  pub loaded : (q : ℕ) (e : SliceEntry) → IsHeld entries s.last q e → is_loaded_use sets s.gid.0 opening e.what ≡ true → end ≡ 0
  pub before : (q p x : ℕ) (e other : SliceEntry) → IsHeld entries s.last q e → is_use s.gid.0 x e.what ≡ true → StandsAt entries p other → p < end → is_foreign s.gid.0 x other.what ≡ false
  pub reached :
      (other : SliceEntry) → StandsAt entries end other
      → (q : ℕ) × (e : SliceEntry) × IsHeld entries s.last q e
      × ((is_loaded_use sets s.gid.0 opening e.what ≡ true) ⊎ ((x : ℕ) × (is_use s.gid.0 x e.what ≡ true) × (is_foreign s.gid.0 x other.what ≡ true)))

-- The ends of the covered accesses of these groups.
pub record AreEnds (sets : ℕ) (opening : What) (entries : List SliceEntry) (stays : List ExclusiveSpan) (ends : List ℕ) : Type 0 where
  pub same : length ends ≡ length stays
  pub each : (j : ℕ) (d : ExclusiveSpan) → j < length stays → IsEnd sets opening entries (slice_index_or stays j d) (slice_index_or ends j 0)
